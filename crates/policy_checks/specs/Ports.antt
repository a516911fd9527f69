-- Bad ports (Fetch, section 2.9, "port blocking").
use Rattle.std.specs.Prelude.{ℕ, Bool, false, ◌==◌, List, [], ◌∷◌, Option, Some, None}
use Rattle.std.specs.List.{list_any}

-- the ports to which no http or https request is sent
abbrev pub bad_ports : List ℕ
bad_ports =
    0 ∷ 1 ∷ 7 ∷ 9 ∷ 11 ∷ 13 ∷ 15 ∷ 17 ∷ 19 ∷ 20 ∷ 21 ∷ 22 ∷ 23 ∷ 25 ∷ 37 ∷ 42 ∷ 43 ∷ 53 ∷ 69 ∷ 77 ∷ 79 ∷ 87 ∷ 95
    ∷ 101 ∷ 102 ∷ 103 ∷ 104 ∷ 109 ∷ 110 ∷ 111 ∷ 113 ∷ 115 ∷ 117 ∷ 119 ∷ 123 ∷ 135 ∷ 137 ∷ 139 ∷ 143 ∷ 161 ∷ 179
    ∷ 389 ∷ 427 ∷ 465 ∷ 512 ∷ 513 ∷ 514 ∷ 515 ∷ 526 ∷ 530 ∷ 531 ∷ 532 ∷ 540 ∷ 548 ∷ 554 ∷ 556 ∷ 563 ∷ 587 ∷ 601
    ∷ 636 ∷ 989 ∷ 990 ∷ 993 ∷ 995 ∷ 1719 ∷ 1720 ∷ 1723 ∷ 2049 ∷ 3659 ∷ 4045 ∷ 4190 ∷ 5060 ∷ 5061 ∷ 6000 ∷ 6566
    ∷ 6665 ∷ 6666 ∷ 6667 ∷ 6668 ∷ 6669 ∷ 6679 ∷ 6697 ∷ 10080 ∷ []

-- "bad port": there is a port, and it is one of these
abbrev pub is_bad_port : Option ℕ → Bool
is_bad_port None = false
is_bad_port (Some port) = list_any (λ bad. bad == port) bad_ports

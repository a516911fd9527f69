-- Connections served one after the other: their ends, their lines, and what they come to together.
use Rattle.std.proofs.Common.{◌≡◌, ℕ, ◌+◌, ◌≤◌, ◌<◌, List, [], ◌∷◌, ◌++◌, map, refl, ap, sym, ◌∙◌, subst, arith, ◌≢◌}
use Rattle.std.proofs.Common.{take}
use Rattle.std.specs.Prelude.{option_map}
use Rattle.std.proofs.Common.{Option, Some, None, append_assoc, length-append}
use Rattle.std.proofs.lemmas.List.{append-nil, map-append}
use Rattle.std.proofs.lemmas.List.Concat.{flat_map-append}
use Rattle.value_lemmas.proofs.Lists.{AllByRecursion-append}
use Rattle.link_traits.proofs.SinkLemmas.{failed-later, quiet-later, took-again, took-nothing}
use Rattle.link_traits.specs.Counts.{one_more}
use Rattle.link_traits.specs.Accepts.{GaveFirst}
use Rattle.link_traits.specs.Links.{Lendings, one_out, TookBack}
use Rattle.link_traits.specs.Sinks.{SinkTold, Took}
use Rattle.server_tables.specs.Serving.{PeerTold}
use Rattle.server_tables.specs.declared.serving.Served.{Served}
use Rattle.server_tables.specs.declared.serving.Served.TheVariants as served
use Rattle.server_tables.specs.declared.table.Row.{Row}
use Rattle.program_corsserve.specs.Connections.{AcceptsTold, Connection, GaveEnds, HasLine, HasServed, HasServedAll}
use Rattle.program_corsserve.specs.Connections.{HasServedLast, IsServedBy, line_of, lines_of, Serves, TookEnds}
use Rattle.program_corsserve.specs.Private.Nexts.{HasServedNext}
use Rattle.program_corsserve.specs.Private.Notes.{IsNoted, IsWritten}
use Rattle.program_shell.specs.declared.status.Status.{Status}
use Rattle.program_shell.specs.declared.status.Status.TheVariants as status
use Rattle.server_tables.specs.declared.read.BadLine.{BadLine}

-- ---- ends

module _ {End : Type 0} where
  gave-both : (a b c : Option (List End)) (xs ys : List End) → GaveEnds a b xs → GaveEnds b c ys
      → GaveEnds a c (xs ++ ys)
  gave-both None b c xs ys one two = tt
  gave-both (Some old) b c xs ys one two =
      let next = subst (λ (o : Option (List End)). GaveEnds o c ys) one.1 two in
      (next.0, next.1, one.2 ∙ ap (λ (l : List End). xs ++ l) next.2 ∙ sym (append_assoc xs ys next.0))

  took-both : (a b c : Option (Lendings End)) (xs ys : List End) → TookEnds a b xs → TookEnds b c ys
      → TookEnds a c (xs ++ ys)
  took-both None b c xs ys one two = tt
  took-both (Some old) b c xs ys one two =
      let next = subst (λ (o : Option (Lendings End)). TookEnds o c ys) one two in
      next ∙ ap (λ (l : List End). let told : Option (Lendings End) = Some (record { back = l; out = old.out }) in told)
      (append_assoc old.back xs ys)

  gave-none : (a : Option (List End)) → GaveEnds a a []
  gave-none None = tt
  gave-none (Some old) = (old, refl, refl)

  took-none : (a : Option (Lendings End)) → TookEnds a a []
  took-none None = tt
  took-none (Some old) =
      ap (λ (l : List End). let told : Option (Lendings End) = Some (record { back = l; out = old.out }) in told)
      (sym (append-nil old.back))

module _ {End : Type 0} where
  -- one end was given, and taken back
  gave-one : (a b c : Option (List End)) (given : End) → GaveFirst a b given → c ≡ b → GaveEnds a c (given ∷ [])
  gave-one None b c given gave same = tt
  gave-one (Some old) b c given gave same = (gave.0, same ∙ gave.1, gave.2)

  took-one : (a b c : Option (Lendings End)) (back : End) → b ≡ option_map one_out a → TookBack b c back
      → TookEnds a c (back ∷ [])
  took-one None b c back out took = tt
  took-one (Some old) b c back out took =
      let is = subst (λ (o : Option (Lendings End)). TookBack o c back) out took in
      is (omega (arith)) ∙ ap (λ (n : ℕ). let told : Option (Lendings End) =
      Some (record { back = old.back ++ back ∷ []; out = n }) in told) (omega (arith))

-- ---- what was served

module _ {End : Type 0} (told : End → PeerTold) (table : List Row) where
  pub served-none : (a : AcceptsTold End) → HasServed told table a a []
  served-none a = record { each = tt; gave = gave-none a.coming; took = took-none a.lent; opened = refl }

  pub served-both : (a b c : AcceptsTold End) (xs ys : List (Connection End)) → HasServed told table a b xs
      → HasServed told table b c ys → HasServed told table a c (xs ++ ys)
  served-both a b c xs ys one two = record {
    each = AllByRecursion-append (IsServedBy told table) xs ys one.each two.each;
    gave = rw (map-append (λ (k : Connection End). k.given) xs ys)
        (gave-both a.coming b.coming c.coming (map (λ k. k.given) xs) (map (λ k. k.given) ys) one.gave two.gave);
    took = rw (map-append (λ (k : Connection End). k.back) xs ys)
        (took-both a.lent b.lent c.lent (map (λ k. k.back) xs) (map (λ k. k.back) ys) one.took two.took);
    opened = two.opened ∙ one.opened;
  }

  -- nothing was served
  pub served-nothing : (a b : AcceptsTold End) → b.coming ≡ a.coming → b.lent ≡ a.lent → b.opened ≡ a.opened
      → HasServed told table a b []
  served-nothing a b coming lent opened = record {
    each = tt;
    gave = subst (λ (o : Option (List End)). GaveEnds a.coming o []) (sym coming) (gave-none a.coming);
    took = subst (λ (o : Option (Lendings End)). TookEnds a.lent o []) (sym lent) (took-none a.lent);
    opened = opened;
  }

  -- one connection was served
  served-one : (a b c : AcceptsTold End) (one : Connection End) → IsServedBy told table one
      → GaveFirst a.coming b.coming one.given → b.lent ≡ option_map one_out a.lent → b.opened ≡ a.opened
      → TookBack b.lent c.lent one.back → c.coming ≡ b.coming → c.opened ≡ b.opened
      → HasServed told table a c (one ∷ [])
  served-one a b c one is gave out opened took coming same = record {
    each = (is, tt);
    gave = gave-one a.coming b.coming c.coming one.given gave coming;
    took = took-one a.lent b.lent c.lent one.back out took;
    opened = same ∙ opened;
  }

  pub served-next : (a b c : AcceptsTold End) (one : Connection End) → IsServedBy told table one
      → GaveFirst a.coming b.coming one.given → b.lent ≡ option_map one_out a.lent → b.opened ≡ a.opened
      → TookBack b.lent c.lent one.back → c.coming ≡ b.coming → c.opened ≡ b.opened → b.faults ≡ a.faults
      → c.faults ≡ b.faults → HasServedNext told table a c one.served
  served-next a b c one is gave out opened took coming same quiet still = record {
    connection = one;
    served_is = refl;
    has_served = served-one a b c one is gave out opened took coming same;
    quiet = still ∙ quiet;
  }

  pub line-one : (one : Connection End) → lines_of (one ∷ []) ≡ line_of one.served
  line-one one = append-nil (line_of one.served)

  -- and its line was written
  pub noted-one : (a c : AcceptsTold End) (k l : SinkTold) (one : Connection End) (verdict : Status BadLine)
      → HasServed told table a c (one ∷ []) → c.faults ≡ a.faults → IsNoted k l one.served verdict
      → Serves told table 1 a c k l verdict
  noted-one a c k l one verdict done quiet noted = by one.served verdict refl noted
    where
      last : HasServedLast told table 1 a c
      last = record {
        before = [];
        last = one;
        fewer = omega (arith);
        served = done;
        lines = tt;
        quiet = quiet;
      }

      wrote : (served : Served) (verdict : Status BadLine) → one.served ≡ served → HasLine served
          → IsWritten k l served verdict → Serves told table 1 a c k l verdict
      wrote served status.Ok is line w = record {
        connections = one ∷ [];
        all = refl;
        served = done;
        lines = (subst HasLine (sym is) line, tt);
        took = subst (Took k.taken l.taken) (sym (line-one one ∙ ap line_of is)) w.took;
        quiet = quiet;
        whole = w.whole;
      }
      wrote served status.WriteFault is line w = record {
        all = last;
        line = subst HasLine (sym is) line;
        part = w.took.0;
        took = subst (λ (s : Served). Took k.taken l.taken (take w.took.0 (line_of s))) (sym is) w.took.1;
        failed = w.failed;
      }
      wrote served status.Usage is line w = w
      wrote served (status.Refused n) is line w = w
      wrote served status.ReadFault is line w = w
      wrote served status.OutOfMemory is line w = absurd w
      wrote served status.InputTooLong is line w = w
      wrote served status.OwnFault is line w = absurd w

      short : (verdict : Status BadLine) → one.served ≡ served.OutOfMemory → verdict ≡ status.OutOfMemory → l ≡ k
          → Serves told table 1 a c k l verdict
      short verdict is same kept = subst (Serves told table 1 a c k l) (sym same) (record {
        all = last;
        refused = is;
        took = subst (λ (o : SinkTold). Took k.taken o.taken []) (sym kept) (took-nothing k.taken);
        whole = (ap (λ (o : SinkTold). o.faults) kept, ap (λ (o : SinkTold). o.zeros) kept);
      })

      by : (served : Served) (verdict : Status BadLine) → one.served ≡ served → IsNoted k l served verdict
          → Serves told table 1 a c k l verdict
      by (served.Answered n) verdict is noted = wrote (served.Answered n) verdict is tt noted
      by served.ReadFault verdict is noted = wrote served.ReadFault verdict is tt noted
      by served.WriteFault verdict is noted = wrote served.WriteFault verdict is tt noted
      by served.OutOfMemory verdict is noted = short verdict is noted.0 noted.1

  lines-both : (xs ys : List (Connection End)) → lines_of (xs ++ ys) ≡ lines_of xs ++ lines_of ys
  lines-both xs ys = flat_map-append (λ (k : Connection End). line_of k.served) xs ys

  pub all-none : (a : AcceptsTold End) (k : SinkTold) → HasServedAll told table 0 a a k k
  all-none a k = record {
    connections = [];
    all = refl;
    served = served-none a;
    lines = tt;
    took = took-nothing k.taken;
    quiet = refl;
    whole = (refl, refl);
  }

  module _ (n count : ℕ) (a b c : AcceptsTold End) (k l m : SinkTold) (before : HasServedAll told table n a b k l) where
    pub all-after : HasServedAll told table 1 b c l m → HasServedAll told table (n + 1) a c k m
    all-after one = record {
      connections = before.connections ++ one.connections;
      all = omega (arith, length-append before.connections one.connections, before.all, one.all);
      served = served-both a b c before.connections one.connections before.served one.served;
      lines = AllByRecursion-append (λ k. HasLine k.served) before.connections one.connections before.lines one.lines;
      took = took-again k.taken l.taken m.taken (lines_of before.connections) (lines_of one.connections) _ before.took
          one.took (lines-both before.connections one.connections);
      quiet = one.quiet ∙ before.quiet;
      whole = quiet-later k l m before.whole one.whole;
    }

    last-after : n < count → HasServedLast told table 1 b c → HasServedLast told table count a c
    last-after below one = record {
      before = before.connections ++ one.before;
      last = one.last;
      fewer = omega (arith, below, length-append before.connections one.before, before.all, one.fewer);
      served = subst (HasServed told table a c) (sym (append_assoc before.connections one.before (one.last ∷ [])))
          (served-both a b c before.connections (one.before ++ one.last ∷ []) before.served one.served);
      lines = AllByRecursion-append (λ k. HasLine k.served) before.connections one.before before.lines one.lines;
      quiet = one.quiet ∙ before.quiet;
    }

    -- what the next connection comes to, after those before it
    pub one-after : (verdict : Status BadLine) → n < count → Serves told table 1 b c l m verdict → verdict ≢ status.Ok
        → Serves told table count a c k m verdict
    unfolding last-after
    one-after status.Ok below one other = absurd (other refl)
    one-after status.Usage below one other = one
    one-after (status.Refused line) below one other = one
    one-after status.ReadFault below one other = one
    one-after status.InputTooLong below one other = one
    one-after status.WriteFault below one other =
        let part : List ℕ = take one.part (line_of one.all.last.served) in
        record {
          all = last-after below one.all;
          line = one.line;
          part = one.part;
          took = took-again k.taken l.taken m.taken (lines_of before.connections) (lines_of one.all.before ++ part) _
              before.took one.took
              (ap (λ (t : List ℕ). t ++ part) (lines-both before.connections one.all.before)
              ∙ append_assoc (lines_of before.connections) (lines_of one.all.before) part);
          failed = failed-later k l m before.whole one.failed;
        }
    one-after status.OutOfMemory below one other = record {
      all = last-after below one.all;
      refused = one.refused;
      took = took-again k.taken l.taken m.taken (lines_of before.connections) (lines_of one.all.before) _ before.took
          one.took (lines-both before.connections one.all.before);
      whole = quiet-later k l m before.whole one.whole;
    }
    one-after status.OwnFault below one other = record {
      connections = before.connections ++ one.connections;
      few = omega (arith, below, length-append before.connections one.connections, before.all, one.few);
      served = served-both a b c before.connections one.connections before.served one.served;
      lines = AllByRecursion-append (λ k. HasLine k.served) before.connections one.connections before.lines one.lines;
      took = took-again k.taken l.taken m.taken (lines_of before.connections) (lines_of one.connections) _ before.took
          one.took (lines-both before.connections one.connections);
      whole = quiet-later k l m before.whole one.whole;
      cause = one.cause ∙ ap one_more before.quiet;
    }

-- The host of a host-source matches: then its other parts decide.
use Rattle.std.proofs.Common.{◌≡◌, ◌&&◌, Bool, true, false, refl}

pub host-decided : (scheme host port path : Bool) → host ≡ true
    → (scheme && port && path) ≡ (scheme && host && port && path)
host-decided true host port path is = rw is refl
host-decided false host port path is = refl

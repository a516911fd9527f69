-- What several texts that are written one after the other come to.
use Rattle.std.proofs.Common.{◌≡◌, ◌∙◌, ℕ, List, [], ◌++◌, Result, Ok, Err, ap, length, refl, subst, sym}
use Rattle.std.proofs.Math.Seq.{take-length}
use Rattle.std.specs.Result.{IsErrAnd}
use Rattle.link_traits.specs.Sinks.{SinkTold, TookPart, faults_written, zeros_written}
use Rattle.link_traits.specs.declared.sink.WriteFault.{WriteFault}
use Rattle.link_traits.specs.declared.sink.WriteFault.TheVariants as write
use Rattle.link_traits.proofs.SinkLemmas.{part-before, ok-after, err-after, took-nothing}
use Rattle.play_text.specs.declared.failure.Failure.{Failure}
use Rattle.play_text.specs.declared.failure.Failure.TheVariants.{OutOfMemory}
use Rattle.play_text.specs.Failures.{failure_of}
use Rattle.play_text.specs.Writes.{Writes, faults_after, zeros_after}

-- a write that failed, by the name of its failure here
pub writes-whole : {A : Type 0} {old new : SinkTold} {x : List ℕ} (fault : WriteFault)
    → TookPart old.taken new.taken x → new.faults ≡ faults_written {A = A} old.faults (Err fault)
    → new.zeros ≡ zeros_written {A = A} old.zeros (Err fault) → Writes {A = A} old new x (Err (failure_of fault))
writes-whole write.Fault part faults zeros = record { ok = tt; err = part; faults = faults; zeros = zeros }
writes-whole write.TookNothing part faults zeros = record { ok = tt; err = part; faults = faults; zeros = zeros }

-- it is written without a call
pub writes-nothing : {A : Type 0} {sink : SinkTold} {a : A} → Writes sink sink [] (Ok a)
writes-nothing {sink = sink} = record {
  ok = took-nothing sink.taken;
  err = tt;
  faults = refl;
  zeros = refl;
}

-- a text after one that was written whole
pub writes-append : {A B : Type 0} {old mid new : SinkTold} {x y : List ℕ} {a : A} {result : Result B Failure}
    → Writes old mid x (Ok a) → Writes mid new y result
    → Writes old new (x ++ y) result
writes-append {old = old} {mid = mid} {new = new} {x = x} {y =
    y} {result = result} first second = record {
      ok = ok-after result old.taken mid.taken new.taken x y first.ok second.ok;
      err = err-after result old.taken mid.taken new.taken x y first.ok second.err;
      faults = second.faults ∙ ap (λ (n : ℕ). faults_after n result) first.faults;
      zeros = second.zeros ∙ ap (λ (n : ℕ). zeros_after n result) first.zeros;
    }

-- more text after one that was not written whole
pub writes-before : {A : Type 0} {old new : SinkTold} {x : List ℕ} {failure : Failure} (y : List ℕ)
    → Writes {A = A} old new x (Err failure)
    → Writes {A = A} old new (x ++ y) (Err failure)
writes-before {old = old} {new = new} {x = x} y first = record {
  ok = tt;
  err = part-before old.taken new.taken x y first.err;
  faults = first.faults;
  zeros = first.zeros;
}

-- the failure is passed on
pub writes-failed : {A : Type 0} {old new : SinkTold} {x : List ℕ} {failure : Failure} (result : Result A Failure)
    → IsErrAnd result (λ passed. passed ≡ failure) → Writes {A = A} old new x (Err failure)
    → Writes old new x result
writes-failed (Ok b) e first = absurd e
writes-failed {A} {old = old} {new = new} {x = x} {failure = failure} (Err passed) e first =
    subst (λ (f : Failure). Writes {A = A} old new x (Err f)) (sym e) first

-- memory was refused after a text that was written whole
pub writes-refused : {A : Type 0} {old new : SinkTold} {x : List ℕ} {a : A} (y : List ℕ) (result : Result A Failure)
    → IsErrAnd result (λ failure. failure ≡ OutOfMemory) → Writes old new x (Ok a)
    → Writes old new (x ++ y) result
writes-refused y (Ok b) e first = absurd e
writes-refused {A} {old = old} {new = new} {x = x} y (Err failure) e first =
    subst (λ (f : Failure). Writes {A = A} old new (x ++ y) (Err f)) (sym e) (record {
      ok = tt;
      err = part-before old.taken new.taken x y (length x, rw (take-length x) first.ok);
      faults = first.faults;
      zeros = first.zeros;
    })

-- whatever comes of writing the rest from here comes of writing the whole text
abbrev pub Onward : SinkTold → SinkTold → List ℕ → List ℕ → Type 0
Onward old now rest whole =
    (new : SinkTold) (result : Result (Unit {0}) Failure) → Writes now new rest result → Writes old new whole result

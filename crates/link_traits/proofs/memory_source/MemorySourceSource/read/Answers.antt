use Rattle.std.proofs.Common.{◌≤◌, ap, arith, length, refl}
use Rattle.link_traits.proofs.SourceLemmas.{gave-front}
use Rattle.link_traits.proofs.memory_source.MemorySourceSource.read.Goals as goal

pub returns-clause-gave : goal.returns-clause-gave
returns-clause-gave c =
    let within : c.min-count.result ≤ length c.split_at.result.1.now = omega (arith, c.min-count.ensures) in (
      _,
      refl,
      gave-front c.self.inside.at c.min-count.result c.self.inside.text c.args.self.now.left
          c.split_at.result.1.now c.copy_from_slice.new.self _ (ap (λ s. s.left) c.self.view_is)
          (rw c.as_slice.ensures at c.split_at.ensures.back) within c.copy_from_slice.ensures.after,
    )

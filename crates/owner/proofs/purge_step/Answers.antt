use Prim.Native.Nat.{ℕ}
use mathlib.Core.Path.{ap, ◌∙◌}
use Rattle.octets.specs.Parts.{written}
use Rattle.octets.specs.BigEndian.{bytes_of}
use Rattle.numbers.specs.Expiry.{later}
use Rattle.document.specs.Stored.{gone_doc}
use Rattle.plain_writer.specs.Change.{freed_rows}
use Rattle.table.specs.Calls.{purged_by}
use Rattle.owner.specs.Purging.{purge_step}
use Rattle.owner.proofs.purge_step.Goals as goal

pub returns : goal.returns
unfolding purge_step
returns c =
    let a = c.args in
    let m = c.later-now.ensures ∙ ap (λ (n : ℕ). later n a.clock) c.be32.ensures in
    let k = c.put_clock.ensures ∙ ap (λ (n : ℕ). written a.s.now 4 (bytes_of 4 n)) m in (
      c.purge.ensures.0 ∙ (λ i. freed_rows (gone_doc (m i) a.bound.0) (k i)),
      c.purge.ensures.1 ∙ (λ i. purged_by a.config (gone_doc (m i) a.bound.0) (k i)),
    )

use mathlib.Core.Path.{sym, ◌∙◌}
use Rattle.with_meta.proofs.StoredLaws.{told-ok}
use Rattle.decode.specs.Decode.{meta_decoded}
use Rattle.decode.proofs.meta_decoded.Goals as goal

pub returns-then-not-with_meta_ok : goal.returns-then-not-with_meta_ok
unfolding meta_decoded
returns-then-not-with_meta_ok g c = simp (← c.read-w.ensures, ← told-ok, ← c.stored.ensures, sym c.with_meta_ok.ensures ∙ c.if-not-with_meta_ok.true)

pub returns : goal.returns
unfolding meta_decoded
returns g c =
    simp (
      ← c.read-w.ensures,
      ← told-ok,
      ← c.stored.ensures,
      sym c.with_meta_ok.ensures ∙ c.if-not-with_meta_ok.false,
      c.instruction_with.ensures,
      c.meta_of.ensures,
      c.saturating_sub.ensures,
      c.from.ensures,
      c.is_forced.ensures,
    )

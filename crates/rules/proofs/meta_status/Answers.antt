-- A status of a with-meta request's field rules: the first rule that is broken, option 0x01 among them.
use native.Mathlib.Omega.{arith}
use Prim.Native.Nat.{ℕ, ◌-◌}
use lib.Dec.{ltb}
use lib.ListN.{length}
use mathlib.Core.Path.{◌≡◌, sym, ap, ◌∙◌}
use mathlib.Core.Bool.{Bool, true, false, cond}
use mathlib.Core.List.{List}
use Rattle.std.proofs.lemmas.Bool.Decides.{nat_tests}
use Rattle.with_meta.specs.declared.WithMeta.{WithMeta}
use Rattle.with_meta.specs.FieldRules.{with_meta_ok}
use Rattle.rules.specs.Rules.{is_forced, meta_status}
use Rattle.rules.proofs.meta_status.Goals as goal

-- by what was read of the extras
module _ (meta : ℕ) (w v : WithMeta) (value : List ℕ) (e : w ≡ v) where
  faulty : with_meta_ok meta w value ≡ false → 0x04 ≡ meta_status meta v value
  unfolding meta_status
  faulty k = rw (sym e, k)

  module _ (k : with_meta_ok meta w value ≡ true) where
    forcing : is_forced w ≡ true → 0x83 ≡ meta_status meta v value
    unfolding meta_status
    forcing f = rw (sym e, k, f)

    sized : is_forced w ≡ false → (large : Bool) → ltb 1024 (length value - w.section) ≡ large → cond large 0x03 0 ≡ meta_status meta v value
    unfolding meta_status
    sized f large l = rw (sym e, k, f, l)

pub returns-then-not-with_meta_ok : goal.returns-then-not-with_meta_ok
returns-then-not-with_meta_ok c = faulty _ _ _ _ c.read-w.ensures (sym c.with_meta_ok.ensures ∙ c.if-not-with_meta_ok.true)

pub returns-then-is_forced : goal.returns-then-is_forced
returns-then-is_forced c =
    let forced : is_forced c.read-w.result ≡ true = grind (arith, nat_tests) in
    forcing _ _ _ _ c.read-w.ensures (sym c.with_meta_ok.ensures ∙ c.if-not-with_meta_ok.false) forced

pub returns-then-too_large : goal.returns-then-too_large
returns-then-too_large c =
    let forced : is_forced c.read-w.result ≡ false = grind (arith, nat_tests) in
    let size = sym (c.too_large.ensures ∙ ap (λ (n : ℕ). ltb 1024 (length c.args.value.now - n)) c.from.ensures) in
    sized _ _ _ _ c.read-w.ensures (sym c.with_meta_ok.ensures ∙ c.if-not-with_meta_ok.false) forced true (size ∙ c.if-too_large.true)

pub returns : goal.returns
returns c =
    let forced : is_forced c.read-w.result ≡ false = grind (arith, nat_tests) in
    let size = sym (c.too_large.ensures ∙ ap (λ (n : ℕ). ltb 1024 (length c.args.value.now - n)) c.from.ensures) in
    sized _ _ _ _ c.read-w.ensures (sym c.with_meta_ok.ensures ∙ c.if-not-with_meta_ok.false) forced false (size ∙ c.if-too_large.false)

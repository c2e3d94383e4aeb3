-- The fields of a trace one after another: each turn is one step of the walk.
use Rattle.std.specs.Prelude.{Option, Some, None}
use native.Mathlib.Omega.{arith}
use Prim.Native.Nat.{ℕ, ◌+◌, ◌≤◌, ◌<◌}
use mathlib.Core.Path.{◌≡◌, refl, sym, ap, subst, ◌∙◌}
use mathlib.Core.Bool.{false, cond}
use mathlib.Core.List.{List, []}
use lib.ListN.{length, drop, drop_of_length-le, length-drop}
use lib.Seq.{drop-drop}
use Rattle.engine.specs.declared.Config.{Config}
use Rattle.trace.specs.declared.Field.{Field}
use Rattle.trace.specs.declared.Field.TheVariants.{Clock, Frame, Reply, Purge, Rule}
use Rattle.trace.specs.Trace.{length_in, bytes_held, field_at, is_broken, placed_from, fields_from}
use Rattle.trace.proofs.Fields.{field-inside, fields-on}
use Rattle.replay.specs.declared.Progress.{Progress}
use Rattle.std.specs.declared.result.Result.{Result}
use Rattle.std.specs.declared.result.Result.TheVariants.{Ok, Err}
use Rattle.replay.specs.declared.ReplayError.{ReplayError}
use Rattle.replay.specs.declared.ReplayError.TheVariants.{Differs as DiffersAt, Stopped as StoppedAt}
use Rattle.replay.specs.Replay.{error_told, Ending, Replayed, Voyage, On, End, on_field, on_turn, After, walked}
use Rattle.replay.specs.Turns.{voyage_of, Turns}

-- a field that leads on isn't broken
on-or-end {ℓ} : {X : Type ℓ} (v : Voyage) (r : Ending) → On v ≡ End r → X
on-or-end v r e = absurd (let y : ◌≡◌ {A = ℕ} 0 1 = cc in omega arith)

unbroken : (config : Config) (at : ℕ) (v w : Voyage) (f : Option Field) (bytes : List ℕ) → On w ≡ on_field config at v f bytes → is_broken f ≡ false
unbroken config at v w (Some (Clock n)) bytes e = refl
unbroken config at v w (Some (Frame len)) bytes e = refl
unbroken config at v w (Some (Reply len)) bytes e = refl
unbroken config at v w (Some (Purge bound)) bytes e = refl
unbroken config at v w (Some (Rule forcing)) bytes e = refl
unbroken config at v w None bytes e = on-or-end w _ e

module _ (config : Config) (trace b out : List ℕ) (p : Progress) where
  abbrev s : List ℕ
  s = drop p.at trace

  abbrev now : Voyage
  now = voyage_of b out p

  -- a turn as the code makes it
  pub turned : (t : List ℕ) (r r' : Result Progress ReplayError) (b' out' : List ℕ) → t ≡ s → r ≡ r' → Turns config b t out p r b' out' → Turns config b s out p r' b' out'
  turned t r r' b' out' e f x = subst (λ (y : Result Progress ReplayError). Turns config b s out p y b' out') f (subst (λ (y : List ℕ). Turns config b y out p r b' out') e x)

  pub walk_end : length trace ≤ p.at → walked config now (fields_from p.at s) ≡ record { answer = Replayed p.frames; table = b }
  unfolding fields_from placed_from
  walk_end h = ap (λ (xs : List ℕ). walked config now (fields_from p.at xs)) (drop_of_length-le trace {i = p.at} h)

  module _ (h : p.at < length trace) where
    more : 1 ≤ length s
    more = omega (arith, h, length-drop p.at trace)

    first : walked config now (fields_from p.at s)
        ≡ on_turn now (on_field config p.at now (field_at p.at s) (bytes_held s))
        (λ w. walked config w (cond (is_broken (field_at p.at s)) [] (fields_from (p.at + (3 + length_in s)) (drop (3 + length_in s) s))))
    first = ap (walked config now) (fields-on p.at s more)

    module _ (q : Progress) (b' out' : List ℕ) (t : Turns config b s out p (Ok q) b' out') where
      not-broken : is_broken (field_at p.at s) ≡ false
      not-broken = unbroken config p.at now (voyage_of b' out' q) (field_at p.at s) (bytes_held s) t.turn

      pub turn_inside : (p.at < q.at) × (q.at ≤ length trace)
      turn_inside =
          let n = field-inside p.at s not-broken in
          (omega (arith, t.leads.0), omega (arith, t.leads.0, n, h, length-drop p.at trace))

      pub walk-on : walked config now (fields_from p.at s) ≡ walked config (voyage_of b' out' q) (fields_from q.at (drop q.at trace))
      walk-on =
          let rest : drop (3 + length_in s) s ≡ drop (p.at + (3 + length_in s)) trace = drop-drop (3 + length_in s) p.at trace in
          first
          ∙ ((λ i. on_turn now (sym t.turn i) (λ w. walked config w (cond (not-broken i) [] (fields_from (p.at + (3 + length_in s)) (rest i)))))
          ∙ (λ i. walked config (voyage_of b' out' q) (fields_from (sym t.leads.0 i) (drop (sym t.leads.0 i) trace))))

    pub walk_ends : (r : ReplayError) (b' out' : List ℕ) → Turns config b s out p (Err r) b' out'
        → ◌≡◌ {A = After} (record { answer = error_told r; table = b' }) (walked config now (fields_from p.at s))
    walk_ends r b' out' t =
        (λ i. record { answer = error_told r; table = t.leads i })
        ∙ sym (first ∙ (λ i. on_turn now (sym t.turn i) (λ w. walked config w (cond (is_broken (field_at p.at s)) [] (fields_from (p.at + (3 + length_in s)) (drop (3 + length_in s) s))))))

-- What each field of a trace leads to, as the code has it.
use Rattle.std.specs.Prelude.{Option, Some, None}
use native.Mathlib.Omega.{arith}
use Prim.Native.Nat.{ℕ, ◌+◌, ◌^◌, ◌≤◌, ◌<◌}
use mathlib.Core.Path.{◌≡◌, refl, sym, ap, subst, ◌∙◌}
use mathlib.Core.Bool.{Bool, true, false}
use mathlib.Core.List.{List}
use lib.ListN.{length}
use lib.Dec.{eqb}
use Rattle.engine.specs.declared.Config.{Config}
use Rattle.octets.specs.Parts.{Bytes, part}
use Rattle.octets.specs.Compare.{same}
use Rattle.octets.proofs.Choices.{cases}
use Rattle.octets.proofs.Lists.{part_length}
use Rattle.numbers.specs.declared.Cas.{Cas}
use Rattle.engines.specs.Damage.{sound_by}
use Rattle.owner.specs.Purging.{purge_step}
use Rattle.owner.proofs.Reading.{purge-stepped}
use Rattle.owner.proofs.Tells.{purge-sound}
use Rattle.trace.specs.declared.Field.{Field}
use Rattle.trace.specs.declared.Field.TheVariants.{Clock, Frame, Reply, Purge, Rule}
use Rattle.trace.specs.Trace.{length_in, bytes_held, field_at, is_broken}
use Rattle.trace.proofs.Fields.{Says, field-says, field-inside}
use Rattle.replay.specs.declared.Progress.{Progress}
use Rattle.std.specs.declared.result.Result.{Result}
use Rattle.std.specs.declared.result.Result.TheVariants.{Ok, Err}
use Rattle.replay.specs.declared.ReplayError.{ReplayError}
use Rattle.replay.specs.declared.ReplayError.TheVariants.{Differs as DiffersAt, Stopped as StoppedAt}
use Rattle.replay.specs.Replay.{Stopped, On, on_field}
use Rattle.replay.specs.Turns.{voyage_of, turn_of, passed, Leads, FrameTurns, Turns, reply_step}

module _ (at : ℕ) (s : List ℕ) where
  -- a field's length, and that it is all there
  pub says : (f : Option Field) → field_at at s ≡ f → Says s f
  says f e = subst (Says s) e (field-says at s)

  pub inside : (f : Option Field) → field_at at s ≡ f → is_broken f ≡ false → 3 + length_in s ≤ length s
  inside f e k = field-inside at s (ap is_broken e ∙ k)

  -- the bytes that a field holds, as the code cuts them out
  module _ (f : Option Field) (len : ℕ) (bytes : List ℕ) (e : field_at at s ≡ f) (k : is_broken f ≡ false) (l : length_in s ≡ len) (x : bytes ≡ part s 3 len) where
    pub held : bytes ≡ bytes_held s
    held = x ∙ ap (part s 3) (sym l)

    pub held-length : length bytes ≡ length_in s
    held-length = ap length held ∙ part_length s 3 (length_in s) (inside f e k)

module _ (config : Config) (b s out : List ℕ) (p : Progress) (sb : sound_by config b ≡ true) where
  pub clock-turns : (clock : ℕ) → field_at p.at s ≡ Some (Clock clock)
      → Turns config b s out p (Ok (record { at = p.at + 3 + 4; clock = clock; frames = p.frames; filled = p.filled })) b out
  clock-turns clock e = record { turn = rw e refl; leads = (omega (arith, says p.at s (Some (Clock clock)) e), omega arith); sound = sb }

  pub rule-turns : (forcing : Bool) (q : Progress) → field_at p.at s ≡ Some (Rule forcing) → q ≡ passed p 1 → Turns config b s out p (Ok q) b out
  rule-turns forcing q e y =
      let l = says p.at s (Some (Rule forcing)) e in
      subst (λ (z : Progress). Turns config b s out p (Ok z) b out) (sym y) (record { turn = rw e refl; leads = (omega (arith, l), omega arith); sound = sb })

  pub broken-turns : field_at p.at s ≡ None → Turns config b s out p (Err (StoppedAt p.at)) b out
  broken-turns e = record { turn = rw e refl; leads = refl; sound = sb }

  pub frame-turns : (len : ℕ) (frame : List ℕ) (r : Result Progress ReplayError) (b' out' : List ℕ) → field_at p.at s ≡ Some (Frame len) → frame ≡ part s 3 len
      → FrameTurns config b frame out p r b' out' → Turns config b s out p r b' out'
  frame-turns len frame r b' out' e x q =
      let l = says p.at s (Some (Frame len)) e in
      let g = held p.at s (Some (Frame len)) len frame e refl l x in
      let k = held-length p.at s (Some (Frame len)) len frame e refl l x in
      let h : Some (Frame (length frame)) ≡ field_at p.at s = ap (λ (n : ℕ). Some (Frame n)) (k ∙ l) ∙ sym e in
      record {
        turn = q.turn ∙ (λ i. on_field config p.at (voyage_of b out p) (h i) (g i));
        leads = subst (λ (n : ℕ). Leads b p n b' r) k q.leads;
        sound = q.sound;
      }

  replied : (len n : ℕ) (bytes : List ℕ) (sent : Bool) → same bytes (part out 0 p.filled) ≡ sent
      → turn_of b out (reply_step sent n p) ≡ on_field config p.at (voyage_of b out p) (Some (Reply len)) bytes
  replied len n bytes sent e = cases (eqb p.frames 0) (λ t. rw t refl) (λ t. cases sent (λ u. rw (t, e, u) refl) (λ u. rw (t, e, u) refl))

  leads-reply : (n : ℕ) (sent : Bool) → n ≡ length_in s → Leads b p (length_in s) b (reply_step sent n p)
  leads-reply n sent l = cases (eqb p.frames 0) (λ t. rw t refl) (λ t. cases sent (λ u. rw (t, u) (omega (arith, l), omega arith)) (λ u. rw (t, u) refl))

  pub reply-turns : (len : ℕ) (expected sent : List ℕ) (r : Result Progress ReplayError) → field_at p.at s ≡ Some (Reply len) → expected ≡ part s 3 len → sent ≡ part out 0 p.filled
      → r ≡ reply_step (same expected sent) (length expected) p → Turns config b s out p r b out
  reply-turns len expected sent r e x y q =
      let l = says p.at s (Some (Reply len)) e in
      let g = held p.at s (Some (Reply len)) len expected e refl l x in
      let k = held-length p.at s (Some (Reply len)) len expected e refl l x in
      let t = replied len (length expected) expected (same expected sent) (ap (same expected) (sym y)) in
      record {
        turn = ap (turn_of b out) q ∙ (t ∙ (λ i. on_field config p.at (voyage_of b out p) (sym e i) (g i)));
        leads = subst (Leads b p (length_in s) b) (sym q) (leads-reply (length expected) (same expected sent) k);
        sound = sb;
      }

  pub purge-turns : (bound : Cas) (b' : List ℕ) (q : Progress) → Bytes b → p.clock < 2 ^ 32 → field_at p.at s ≡ Some (Purge bound)
      → b' ≡ (purge_step config b p.clock bound.0).table → q ≡ passed p 8 → Turns config b s out p (Ok q) b' out
  purge-turns bound b' q y small e w g =
      let l = says p.at s (Some (Purge bound)) e in
      let x = (purge-stepped config b p.clock bound.0 _ b' y small sb refl w).1 in
      subst (λ (z : Progress). Turns config b s out p (Ok z) b' out) (sym g) (record {
        turn = (λ i. On (voyage_of (x i) out (passed p 8))) ∙ (λ i. on_field config p.at (voyage_of b out p) (sym e i) (bytes_held s));
        leads = (omega (arith, l), omega arith);
        sound = ap (sound_by config) x ∙ purge-sound config b p.clock bound.0 y small sb;
      })

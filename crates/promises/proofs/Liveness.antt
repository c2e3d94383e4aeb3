-- What the tests make of a document that is live by 01's words, or isn't, and the status that a frame is then served with.
use Prim.Native.Nat.{ℕ, ◌+◌, ◌≤◌, ◌<◌}
use mathlib.Core.Path.{◌≡◌, refl, sym, ap, ◌∙◌}
use mathlib.Core.Bool.{Bool, true, false, not, ◌&&◌, ◌||◌}
use mathlib.Core.List.{List, [], ◌∷◌, ◌++◌}
use mathlib.Core.Logic.{◌⊎◌, inl, inr}
use Rattle.std.specs.Prelude.{Option, Some, None}
use native.Mathlib.Omega.{arith}
use lib.ListN.{length, take, drop, take-append-drop}
use lib.Dec.{eqb}
use borrow.Author.Tests.{eqb-true, eq-eqb, ne_eqb, le-leb, lt-leb, le-ltb, leb-false, not-true}
use Rattle.engine.specs.declared.Config.{Config}
use Rattle.octets.proofs.Choices.{cases, both}
use Rattle.numbers.specs.Expiry.{expired}
use Rattle.numbers.proofs.LeftLaws.{expired-said}
use Rattle.document.specs.Documents.{Doc}
use Rattle.document.specs.Stored.{stored_of, live}
use Rattle.header.specs.declared.Header.{Header}
use Rattle.header.specs.Header.{header_of}
use Rattle.request.specs.Reading.{Gate, Stop, Whole}
use Rattle.commands.specs.Rules.{Check, first_failure}
use Rattle.rows.specs.Table.{Table, table_of, table_at, clock_at}
use Rattle.serving.specs.Serve.{Done, decision_on, frame_effect, answer_by, table_by, frame_table, frame_reply, gate_all, served, served_table}
use Rattle.serving.specs.Statuses.{statuses}
use Rattle.serving.proofs.Formed.{no}
use Rattle.serving.proofs.Gated.{was-open}
use Rattle.serving.proofs.Statuses.{statuses-in-order}
use Rattle.promises.specs.Kept.{later_at}
use Rattle.promises.specs.Expiry.{NotLive, Live, Passes, Reaches, Answers, Avoids}
use Rattle.promises.proofs.Kept.{at-later}

-- ---- liveness
pub is-expired : (expiry clock : ℕ) → (expiry ≡ 0 → ⊥) → expiry ≤ clock → expired expiry clock ≡ true
is-expired expiry clock z l = expired-said expiry clock ∙ rw (ne_eqb expiry 0 z, le-leb expiry clock l)

pub dead : (clock : ℕ) (row : Option Doc) → NotLive clock row → live (stored_of row) clock ≡ false
unfolding live
dead clock None n = refl
dead clock (Some d) (inl t) = rw t
dead clock (Some d) (inr e) = rw (e.document, is-expired d.numbers.expiry clock e.ends e.past)

pub and-false : (a : Bool) → (a && false) ≡ false
and-false true = refl
and-false false = refl

pub or-true : (a : Bool) → (a || true) ≡ true
or-true true = refl
or-true false = refl

pub or-false : (a : Bool) → (a || false) ≡ a
or-false true = refl
or-false false = refl

alive-by : (clock : ℕ) (d : Doc) → d.tomb ≡ false → (d.numbers.expiry ≡ 0) ⊎ (clock < d.numbers.expiry) → live (stored_of (Some d)) clock ≡ true
unfolding live
alive-by clock d e (inl z) = let s = expired-said d.numbers.expiry clock in rw (e, s, z)
alive-by clock d e (inr l) =
    let s = expired-said d.numbers.expiry clock in
    rw (e, s, lt-leb d.numbers.expiry clock l, and-false (not (eqb d.numbers.expiry 0)))

pub alive : (clock : ℕ) (d : Doc) → Live clock d → live (stored_of (Some d)) clock ≡ true
alive clock d a = alive-by clock d a.document a.unexpired

-- at the later of the kept clock and a call's
pub dead-at : (b : List ℕ) (clock : ℕ) (row : Option Doc) → NotLive (later_at b clock) row → live (stored_of row) (clock_at (table_of b) clock) ≡ false
dead-at b clock row n = dead (clock_at (table_of b) clock) row (at-later (λ (c : ℕ). NotLive c row) b clock n)

pub alive-at : (b : List ℕ) (clock : ℕ) (d : Doc) → Live (later_at b clock) d → live (stored_of (Some d)) (clock_at (table_of b) clock) ≡ true
alive-at b clock d a = alive (clock_at (table_of b) clock) d (at-later (λ (c : ℕ). Live c d) b clock a)

-- and the other way round: what the test takes for live is so by 01's words
pub live-said : (clock : ℕ) (d : Doc) → live (stored_of (Some d)) clock ≡ true → Live clock d
unfolding live
live-said clock d e =
    let (t, n) = both (not d.tomb) _ e in
    let past = sym (expired-said d.numbers.expiry clock) ∙ not-true (expired d.numbers.expiry clock) n in
    record {
      document = not-true d.tomb t;
      unexpired =
          cases (eqb d.numbers.expiry 0)
          (λ z. inl (eqb-true d.numbers.expiry 0 z))
          (λ z. inr (leb-false d.numbers.expiry clock (rw z at past)));
    }

-- ---- lists of checks
-- where the first n pass, the later ones decide
passed_first : (a b : List Check) → Passes a → first_failure (a ++ b) ≡ first_failure b
unfolding first_failure
passed_first [] b p = refl
passed_first (c ∷ a) b p = rw p.0 (passed_first a b p.1)

pub later : (n : ℕ) (l : List Check) → Passes (take n l) → first_failure l ≡ first_failure (drop n l)
later n l p = ap first_failure (sym (take-append-drop n l)) ∙ passed_first (take n l) (drop n l) p

-- no check with this status fails
abbrev pub Without : ℕ → List Check → Type 0
Without n [] = eqb 0 n ≡ false
Without n (c ∷ cs) = ((eqb c.status n && c.fails) ≡ false) × Without n cs

pub without : (n : ℕ) (l : List Check) → Without n l → first_failure l ≡ n → ⊥
unfolding first_failure
without n [] p e = no (sym (p) ∙ eq-eqb 0 n e)
without n (c ∷ cs) p e =
    cases c.fails
    (λ t. let z : c.status ≡ n = rw t at e in no (sym p.0 ∙ rw (eq-eqb c.status n z, t)))
    (λ t. without n cs p.1 (rw t at e))

-- where the status is 0 each of them passes
abbrev pub Refusing : List Check → Type 0
Refusing [] = Unit {0}
Refusing (c ∷ cs) = (eqb c.status 0 ≡ false) × Refusing cs

pub all_pass : (l : List Check) → Refusing l → first_failure l ≡ 0 → Passes l
unfolding first_failure
all_pass [] r e = tt
all_pass (c ∷ cs) r e =
    cases c.fails
    (λ t. let z : c.status ≡ 0 = rw t at e in no (sym r.0 ∙ eq-eqb c.status 0 z))
    (λ t. (t, all_pass cs r.1 (rw t at e)))

-- ---- a frame that is served
module _ (config : Config) (b : List ℕ) (clock : ℕ) (s : List ℕ) where
  -- the table at the call's clock, and the later clock
  abbrev t : Table
  t = table_at (table_of b) clock

  abbrev now : ℕ
  now = clock_at (table_of b) clock

  abbrev pub status : ℕ
  status = first_failure (statuses config t now s (header_of s))

  abbrev decided : ℕ
  decided = (decision_on config t now s (header_of s)).status

  pub listed : decided ≡ status
  listed = sym (statuses-in-order config t now s (header_of s))

module _ (config : Config) (b : List ℕ) (clock : ℕ) (s : List ℕ) (room : ℕ) where
  pub opened : Reaches config b clock s room → gate_all config b room s ≡ Whole (header_of s)
  unfolding gate_all
  opened r = rw (r.undamaged, le-ltb room 1302 r.roomy) r.whole

  pub table-open : Reaches config b clock s room → served_table config b clock s room ≡ frame_table config b clock s (header_of s)
  unfolding served_table
  table-open r = ap (table_by config b clock s) (opened r)

  pub answers : Reaches config b clock s room → (n : ℕ) → status config b clock s ≡ n → Answers config b clock s room n
  unfolding served frame_effect
  answers r n e =
      let len = length (frame_reply config b clock s (header_of s)) in
      (len, ap (answer_by config b clock s) (opened r) ∙ ap (λ (x : ℕ). Done x (24 + (header_of s).body) len) (listed config b clock s ∙ e))

  answered-by : (n used len : ℕ) (g : Gate) → gate_all config b room s ≡ g → answer_by config b clock s g ≡ Done n used len → decided config b clock s ≡ n
  unfolding frame_effect
  answered-by n used len (Stop m more) o e = absurd (let z : ◌≡◌ {A = ℕ} 0 1 = cc in omega arith)
  answered-by n used len (Whole h) o e =
      let same = (was-open config b s room h o).frame.header in
      let z : (decision_on config (t config b clock s) (now config b clock s) s h).status ≡ n = cc in
      ap (λ (x : Header). (decision_on config (t config b clock s) (now config b clock s) s x).status) same ∙ z

  pub answered : (n used len : ℕ) → served config b clock s room ≡ Done n used len → status config b clock s ≡ n
  unfolding served
  answered n used len e = sym (listed config b clock s) ∙ answered-by n used len (gate_all config b room s) refl e

  pub avoids : (n : ℕ) → Without n (statuses config (t config b clock s) (now config b clock s) s (header_of s)) → Avoids config b clock s room n
  avoids n w used len e = without n (statuses config (t config b clock s) (now config b clock s) s (header_of s)) w (answered n used len e)

  opened-by : (n used len : ℕ) (g : Gate) → gate_all config b room s ≡ g → answer_by config b clock s g ≡ Done n used len → gate_all config b room s ≡ Whole (header_of s)
  opened-by n used len (Stop m more) o e = absurd (let z : ◌≡◌ {A = ℕ} 0 1 = cc in omega arith)
  opened-by n used len (Whole h) o e = o ∙ ap Whole (sym (was-open config b s room h o).frame.header)

  -- a frame that is served is whole
  pub was-whole : (n used len : ℕ) → served config b clock s room ≡ Done n used len → gate_all config b room s ≡ Whole (header_of s)
  unfolding served
  was-whole n used len e = opened-by n used len (gate_all config b room s) refl e

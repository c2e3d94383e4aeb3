-- The status that serving gives is the first of 01's list that applies.
use Prim.Native.Nat.{ℕ, ◌-◌}
use mathlib.Core.Path.{◌≡◌, refl, sym, ◌∙◌}
use mathlib.Core.Logic.{◌⊎◌, inl, inr}
use mathlib.Core.Bool.{Bool, true, false, cond, not, ◌&&◌}
use mathlib.Core.List.{List, [], ◌∷◌}
use lib.ListN.{length}
use lib.Dec.{ltb, eqb}
use Rattle.shape.specs.Shapes.{Shape, Command, commands, unbuilt, look_up, among, shape_of}
use Rattle.rules.specs.Rules.{form_ok, field_rules_ok, keeps_rules, forces, meta_size, judged, status}
use Rattle.request.specs.Reading.{bytes_in, extras_span, value_span, frame_status}
use Rattle.commands.specs.Rules.{first_status, first_failure}
use Rattle.decision.specs.Decision.{Decision, decision}
use Rattle.serving.specs.Serve.{reaches_decision, decision_on}
use Rattle.serving.specs.Statuses.{tests_on, StatusesInOrder}
use Rattle.serving.proofs.Formed.{by_cond}

-- an opcode is built, or has one of two statuses
abbrev Known : Shape → Type 0
Known s = (s.status ≡ 0) ⊎ ((s.status ≡ 0x83) ⊎ (s.status ≡ 0x81))

known_in : (op : ℕ) (cs : List Command) (other : Shape) → Known other → Known (look_up op cs other)
unfolding look_up
known_in op [] other p = p
known_in op (c ∷ cs) other p =
    by_cond Known (eqb op c.loud) _ _ (λ t. inl refl)
    (λ t. by_cond Known (among op c.quiet) _ _ (λ u. inl refl) (λ u. known_in op cs other p))

known : (op : ℕ) → Known (shape_of op)
unfolding shape_of
known op =
    known_in op commands _
    (by_cond Known (among op unbuilt) _ _ (λ u. inr (inl refl)) (λ u. inr (inr refl)))

-- the reader's status where a rule of statuses 1 and 2 is broken, and the list where `rest` is what the command's own tests come to
abbrev readers : ℕ → Bool → Bool → ℕ → ℕ
readers n form fields later = cond (not (eqb n 0)) n (cond (not form) 0x04 (cond (not fields) 0x04 later))

abbrev listed : ℕ → Bool → Bool → ℕ → ℕ
listed n form fields rest = cond (eqb n 0x83) 0x83 (cond (eqb n 0x81) 0x81 (cond (not form) 0x04 (cond (not fields) 0x04 rest)))

abbrev keeps : ℕ → Bool → Bool → Bool
keeps n form fields = eqb n 0 && (form && fields)

built : (form fields : Bool) (rest later : ℕ) → listed 0 form fields rest ≡ cond (keeps 0 form fields) rest (readers 0 form fields later)
built false fields rest later = refl
built true false rest later = refl
built true true rest later = refl

ordered : (n : ℕ) → (n ≡ 0) ⊎ ((n ≡ 0x83) ⊎ (n ≡ 0x81)) → (form fields : Bool) (rest later : ℕ)
    → listed n form fields rest ≡ cond (keeps n form fields) rest (readers n form fields later)
ordered n (inl e) form fields rest later = rw e (built form fields rest later)
ordered n (inr (inl e)) form fields rest later = rw e
ordered n (inr (inr e)) form fields rest later = rw e

status-of : (b : Bool) (x y : Decision) → (cond b x y).status ≡ cond b x.status y.status
status-of true x y = refl
status-of false x y = refl

pub statuses-in-order : StatusesInOrder
unfolding decision_on decision frame_status status judged keeps_rules first_status first_failure
statuses-in-order config t clock s h =
    let shape = shape_of h.opcode in
    let extras = bytes_in s (extras_span h) in
    let value = bytes_in s (value_span h) in
    let later : ℕ = cond (forces shape extras) 0x83 (cond (ltb 1024 (length value - meta_size shape extras)) 0x03 0) in
    ordered shape.status (known h.opcode) (form_ok shape h) (field_rules_ok shape extras value) (first_status (tests_on config t clock s h)) later
    ∙ sym (status-of (reaches_decision s h) _ _)

-- For the code alone: how an entry of the constant table stands for a shape, and the law that turns a computed test of the whole table into its rule at each entry.
use Rattle.std.specs.Prelude.{ℕ, zero, suc, ◌+◌, ◌/◌, ◌%◌, ◌<◌, ◌≡◌, Bool, List, [], ◌∷◌, map, get_or, eqb}
use Rattle.std.proofs.Common.{sym, ap, ◌∙◌, add-zero, zero-add, add-suc, suc-add, le_of_suc-le-suc, not-suc-le-zero}
use Rattle.std.proofs.Math.ListN.{get_or-map}
use Rattle.shape.specs.declared.Operation.TheVariants.{Unknown, NotBuilt}
use Rattle.shape.specs.Shapes.{Shape, Command, commands, shape_by, refused, shape_of}

-- the shapes of the operations, loud and quiet: unknown, not built, then the commands
abbrev pub unknown : Bool → Shape
unknown q = refused Unknown 0x81

abbrev pub not_built : Bool → Shape
not_built q = refused NotBuilt 0x83

abbrev pub built : Command → Bool → Shape
built c q = shape_by c.operation c.form q

unfoldable pub operations : List (Bool → Shape)
unfolding commands
operations = unknown ∷ not_built ∷ map built commands

-- the operation with this number, loud or quiet
unfoldable pub numbered : ℕ → Bool → Shape
unfolding operations
numbered n q = get_or operations n unknown q

-- an entry: an operation's number times two, plus one for its quiet form
abbrev pub entry_shape : ℕ → Shape
entry_shape k = numbered (k / 2) (eqb (k % 2) 1)

-- f at i, i + 1, .., n of them
unfoldable pub build {ℓ} : {A : Type ℓ} → (ℕ → A) → ℕ → ℕ → List A
build f i zero = []
build f i (suc n) = f i ∷ build f (suc i) n

pub get_d-build {ℓ} : {A : Type ℓ} (f : ℕ → A) (d : A) (n i k : ℕ) → k < n → get_or (build f i n) k d ≡ f (i + k)
unfolding build
get_d-build f d zero i k h = absurd (not-suc-le-zero h)
get_d-build f d (suc n) i zero h = ap f (sym (add-zero i))
get_d-build f d (suc n) i (suc k) h = get_d-build f d n (suc i) k (le_of_suc-le-suc h) ∙ ap f (suc-add i k ∙ sym (add-suc i k))

-- a table whose every entry stands for its opcode's shape does so at each
pub at_each : (entry : ℕ → Shape) (table : List ℕ) (n : ℕ) → map entry table ≡ build shape_of 0 n → (op : ℕ) → op < n → entry (get_or table op 0) ≡ shape_of op
at_each entry table n e op h =
    sym (get_or-map entry table op 0) ∙ ap (λ (l : List Shape). get_or l op (entry 0)) e ∙ get_d-build shape_of (entry 0) n 0 op h ∙ ap shape_of (zero-add op)

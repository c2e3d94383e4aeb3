-- What holds of every command's shape, and of the two refusals, holds of every opcode's.
use Prim.Native.Nat.{ℕ}
use mathlib.Core.Path.{◌≡◌}
use mathlib.Core.Bool.{Bool, true, false}
use mathlib.Core.List.{List, [], ◌∷◌, map}
use lib.Dec.{eqb}
use Rattle.octets.proofs.Choices.{cases}
use Rattle.shape.specs.declared.Operation.{Operation}
use Rattle.shape.specs.declared.Operation.TheVariants.{Unknown, NotBuilt}
use Rattle.shape.specs.Shapes.{Shape, Form, Command, commands, unbuilt, shape_by, refused, among, look_up, shape_of}

module _ {ℓ} (P : Shape → Type ℓ) (op : ℕ) where
  -- of each of these commands, loud and quiet
  abbrev pub Each : List Command → Type ℓ
  Each [] = Unit {ℓ}
  Each (c ∷ cs) = ((q : Bool) → P (shape_by c.operation c.form q)) × Each cs

  every : ((o : Operation) (f : Form) (q : Bool) → P (shape_by o f q)) → (cs : List Command) → Each cs
  every p [] = tt
  every p (c ∷ cs) = (λ q. p c.operation c.form q, every p cs)

  -- of what is found in a list of them
  pub looked-up : (cs : List Command) (other : Shape) → Each cs → P other → P (look_up op cs other)
  unfolding look_up
  looked-up [] other e p = p
  looked-up (c ∷ cs) other e p =
      cases (eqb op c.loud)
      (λ l. rw l (e.0 false))
      (λ l. cases (among op c.quiet) (λ q. rw (l, q) (e.0 true)) (λ q. rw (l, q) (looked-up cs other e.1 p)))

  pub each-shape : Each commands → P (refused NotBuilt 0x83) → P (refused Unknown 0x81) → P (shape_of op)
  unfolding shape_of
  each-shape e n u = looked-up commands _ e (cases (among op unbuilt) (λ t. rw t n) (λ t. rw t u))

  -- where it holds of whatever form a command has
  pub any-shape : ((o : Operation) (f : Form) (q : Bool) → P (shape_by o f q)) → P (refused NotBuilt 0x83) → P (refused Unknown 0x81) → P (shape_of op)
  any-shape p n u = each-shape (every p commands) n u

-- the shapes of these commands, loud and quiet, then the two refusals
abbrev pub shapes : List Command → List Shape
shapes [] = refused NotBuilt 0x83 ∷ refused Unknown 0x81 ∷ []
shapes (c ∷ cs) = shape_by c.operation c.form false ∷ shape_by c.operation c.form true ∷ shapes cs

either-form {ℓ} : (P : Bool → Type ℓ) → P false → P true → (q : Bool) → P q
either-form P l r false = l
either-form P l r true = r

-- two functions of a shape that one computed test shows to agree on each of these agree on every opcode's
module _ {ℓ} {X : Type ℓ} (f g : Shape → X) (op : ℕ) where
  abbrev Agree : Shape → Type ℓ
  Agree s = f s ≡ g s

  agree : (cs : List Command) → map f (shapes cs) ≡ map g (shapes cs) → Each Agree op cs × Agree (refused NotBuilt 0x83) × Agree (refused Unknown 0x81)
  agree [] e = let n : Agree (refused NotBuilt 0x83) = cc in let u : Agree (refused Unknown 0x81) = cc in (tt, n, u)
  agree (c ∷ cs) e =
      let l : Agree (shape_by c.operation c.form false) = cc in
      let q : Agree (shape_by c.operation c.form true) = cc in
      let r : map f (shapes cs) ≡ map g (shapes cs) = cc in
      let (a, n, u) = agree cs r in
      ((either-form (λ b. Agree (shape_by c.operation c.form b)) l q, a), n, u)

  pub same_shape : map f (shapes commands) ≡ map g (shapes commands) → f (shape_of op) ≡ g (shape_of op)
  same_shape e = let (a, n, u) = agree commands e in each-shape Agree op a n u

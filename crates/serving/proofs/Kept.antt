-- What a decision stores, and for which key: nothing stored keeps the head, and only a command with a key stores.
use native.Mathlib.Omega.{arith}
use Prim.Native.Nat.{ℕ, ◌^◌, ◌≤◌, ◌<◌}
use mathlib.Core.Path.{◌≡◌, refl, sym}
use mathlib.Core.Bool.{Bool}
use mathlib.Core.List.{List, [], ◌∷◌}
use Rattle.std.specs.Prelude.{Option, Some, None}
use lib.Dec.{eqb}
use lib.ListN.{length}
use Rattle.octets.specs.Compare.{same}
use Rattle.octets.proofs.Choices.{cases}
use Rattle.document.specs.declared.Head.{Head}
use Rattle.document.specs.Documents.{Key, Doc, doc_value}
use Rattle.document.specs.Stored.{live, numbers_of, stored_of}
use Rattle.commands.specs.declared.Context.{Context}
use Rattle.effects.specs.declared.Done.{Done}
use Rattle.commands.specs.declared.Command.{Command}
use Rattle.commands.specs.declared.Command.TheVariants.{Get, Write, Delete, Count, Noop, Version, WithMeta, GetKeys, Join, Touch}
use Rattle.effects.specs.declared.Reply.TheVariants.{Bare}
use Rattle.commands.specs.Rules.{rule_of, status_by}
use Rattle.effects.specs.Done.{done_of, nothing}
use Rattle.decision.specs.Decision.{decision}
use Rattle.decision.specs.Decide.{Request, context_of, decide, instruction_of, doc_from, bytes_from}
use Rattle.numbers.specs.Claims.{NumbersFit}
use Rattle.rows.specs.Row.{Row}
use Rattle.rows.specs.Find.{find_row}
use Rattle.rows.specs.Good.{AllGood}
use Rattle.octets.proofs.Options.{none-some}
use Rattle.serving.proofs.Formed.{by_cond, Named}

module _ (c : Context) (frame stored : List ℕ) (n : ℕ) where
  abbrev stores : Done → Option Doc
  stores x = doc_from x.store (bytes_from x.source frame stored)

  abbrev Keeps : Done → Type 0
  Keeps x = (stores x ≡ None → x.head ≡ c.head) × ((d : Doc) → stores x ≡ Some d → 1 ≤ n)

  done-keeps : (x : Command) → Named n x → Keeps (done_of c x)
  unfolding done_of
  done-keeps (Get k) p = (λ e. refl, λ d e. none-some d e)
  done-keeps (Write w) p = (λ e. none-some _ (sym e), λ d e. p)
  done-keeps Delete p = (λ e. none-some _ (sym e), λ d e. p)
  done-keeps (Count k) p = by_cond Keeps (live c.row c.clock) _ _ (λ t. (λ e. none-some _ (sym e), λ d e. p)) (λ t. (λ e. none-some _ (sym e), λ d e. p))
  done-keeps Noop p = (λ e. refl, λ d e. none-some d e)
  done-keeps Version p = (λ e. refl, λ d e. none-some d e)
  done-keeps (WithMeta w) p = (λ e. none-some _ (sym e), λ d e. p)
  done-keeps (GetKeys k) p = (λ e. refl, λ d e. none-some d e)
  done-keeps (Join side) p = (λ e. none-some _ (sym e), λ d e. p)
  done-keeps (Touch t) p = (λ e. none-some _ (sym e), λ d e. p)

pub decide-keeps : (h : Head) (row : Option Doc) (free : Bool) (clock : ℕ) (q : Request) (n : ℕ) → Named n q.command
    → ((decide h row free clock q).store ≡ None → (decide h row free clock q).head ≡ h)
    × ((d : Doc) → (decide h row free clock q).store ≡ Some d → 1 ≤ n)
unfolding decide decision
decide-keeps h row free clock q n p =
    let c = context_of h row free clock in
    by_cond (Keeps c q.value (doc_value row) n) (eqb (status_by c (instruction_of q) (rule_of c q.command)) 0)
    (done_of c q.command) (nothing h Bare (record { 0 = 0 }))
    (λ t. done-keeps c q.value (doc_value row) n q.command p)
    (λ t. (λ e. refl, λ d e. none-some d e))

-- the numbers of a key's row fit
pub fits-found : (mark : ℕ) (ws : List Row) (k : Key) → mark < 2 ^ 64 → AllGood mark ws → NumbersFit (numbers_of (stored_of (find_row ws k)))
fits-found mark [] k m g = record { flags = omega arith; expiry = omega arith; revision = omega arith; cas = omega arith }
fits-found mark (None ∷ ws) k m g = fits-found mark ws k m g
fits-found mark (Some x ∷ ws) k m g =
    cases (same x.key k)
    (λ s. rw s (record { flags = g.0.flags; expiry = g.0.expiry; revision = g.0.revision; cas = omega (arith, g.0.cas-most) }))
    (λ s. rw s (fits-found mark ws k m g.1))

-- and its value is short
pub short-found : (mark : ℕ) (ws : List Row) (k : Key) → AllGood mark ws → length (doc_value (find_row ws k)) ≤ 1024
short-found mark [] k g = omega arith
short-found mark (None ∷ ws) k g = short-found mark ws k g
short-found mark (Some x ∷ ws) k g = cases (same x.key k) (λ s. rw s g.0.value-most) (λ s. rw s (short-found mark ws k g.1))

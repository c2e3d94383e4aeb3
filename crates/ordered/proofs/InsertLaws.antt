-- A document stored among rows in key order: what is found, what is free, how many rows there are, and that they stay in order.
use native.Mathlib.Omega.{arith}
use mathlib.Core.Path.{◌≡◌, refl, sym, ap, ◌∙◌}
use mathlib.Core.Bool.{true, cond}
use mathlib.Core.List.{List, [], ◌∷◌, ◌++◌}
use Rattle.std.specs.Prelude.{Option, Some, None}
use Rattle.std.specs.declared.cmp.Ordering.TheVariants.{Greater}
use Prim.Native.Nat.{suc, ◌<◌}
use lib.ListN.{length, take, drop}
use Rattle.octets.specs.Compare.{same}
use Rattle.octets.proofs.Choices.{cases}
use Rattle.octets.proofs.Options.{none-some}
use Rattle.keys.specs.Keys.{side_of}
use Rattle.keys.proofs.KeyLaws.{sides, side-equal, side-flip, equal-same, less-same, greater-same}
use Rattle.document.specs.Documents.{Key, Doc, Entry}
use Rattle.rows.specs.Row.{Row}
use Rattle.rows.specs.Find.{find_row, free_rows}
use Rattle.plain.specs.Plain.{replace}
use Rattle.plain.proofs.PlainLaws.{swap}
use Rattle.ordered.specs.Order.{follows, ordered}
use Rattle.ordered.specs.Insert.{rows_below, one_free_less, insert_row}
use Rattle.ordered.proofs.OrderLaws.{AllFollow, EachFollows, follow-trans, ordered-each, each-ordered, not-less, not_after}

-- rows without the first free one
find-less : (ws : List Row) (j : Key) → find_row (one_free_less ws) j ≡ find_row ws j
find-less [] j = refl
find-less (None ∷ ws) j = refl
find-less (Some x ∷ ws) j = ap (λ (o : Option Doc). cond (same x.key j) (Some x.doc) o) (find-less ws j)

free-less : (ws : List Row) → 0 < free_rows ws → suc (free_rows (one_free_less ws)) ≡ free_rows ws
free-less [] h = absurd (omega arith)
free-less (None ∷ ws) h = refl
free-less (Some x ∷ ws) h = free-less ws h

length-less : (ws : List Row) → 0 < free_rows ws → suc (length (one_free_less ws)) ≡ length ws
length-less [] h = absurd (omega arith)
length-less (None ∷ ws) h = refl
length-less (Some x ∷ ws) h = ap suc (length-less ws h)

follow-less : (w : Row) (ws : List Row) → AllFollow w ws → AllFollow w (one_free_less ws)
follow-less w [] a = tt
follow-less w (None ∷ ws) a = a.1
follow-less w (Some x ∷ ws) a = (a.0, follow-less w ws a.1)

each-less : (ws : List Row) → EachFollows ws → EachFollows (one_free_less ws)
each-less [] c = tt
each-less (None ∷ ws) c = c.1
each-less (Some x ∷ ws) c = (follow-less (Some x) ws c.0, each-less ws c.1)

follow-key : (x y : Entry) (ws : List Row) → x.key ≡ y.key → AllFollow (Some x) ws → AllFollow (Some y) ws
follow-key x y [] e a = tt
follow-key x y (None ∷ ws) e a = (refl, follow-key x y ws e a.1)
follow-key x y (Some z ∷ ws) e a = (rw e at a.0, follow-key x y ws e a.1)

module _ (k : Key) (d : Doc) where
  abbrev new : Entry
  new = record { key = k; doc = d }

  -- the key has no row from a row above it on
  not-above : (x : Entry) (ws : List Row) → AllFollow (Some x) ws → side_of x.key k ≡ Greater → find_row (Some x ∷ ws) k ≡ None
  not-above x ws a g = rw (greater-same x.key k g) (not_after k (Some x) ws a (not-less (side_of x.key k) g))

  -- over the key's row, where it has one
  pub insert-replaces : (ws : List Row) (e : Doc) → EachFollows ws → find_row ws k ≡ Some e → insert_row ws k d ≡ replace ws k d
  insert-replaces [] e c f = none-some e f
  insert-replaces (None ∷ ws) e c f = none-some e (sym (not_after k None ws c.0 (not-less Greater refl)) ∙ f)
  insert-replaces (Some x ∷ ws) e c f =
      sides (side_of x.key k)
      (λ l. rw (l, less-same x.key k l) (ap (λ (r : List Row). Some x ∷ r) (insert-replaces ws e c.1 (rw (less-same x.key k l) at f))))
      (λ q. rw (q, equal-same x.key k q))
      (λ g. none-some e (sym (not-above x ws c.0 g) ∙ f))

  pub find-insert : (ws : List Row) → (find_row ws k ≡ None → 0 < free_rows ws) → (j : Key) → find_row (insert_row ws k d) j ≡ cond (same k j) (Some d) (find_row ws j)
  find-insert [] room j = absurd (let h = room refl in omega arith)
  find-insert (None ∷ ws) room j = refl
  find-insert (Some x ∷ ws) room j =
      sides (side_of x.key k)
      (λ l.
      let n = less-same x.key k l in
      rw (l, find-insert ws (λ q. room (rw n q)) j) (swap x.key k j x.doc d (find_row ws j) n))
      (λ e. rw (e, side-equal x.key k e) (cases (same k j) (λ s. rw s) (λ s. rw s)))
      (λ g. rw (g, find-less ws j))

  -- a key without a row gets one past the rows below it
  pub insert-new : (ws : List Row) → find_row ws k ≡ None → 0 < free_rows ws
      → insert_row ws k d ≡ take (rows_below k ws) ws ++ (Some new ∷ one_free_less (drop (rows_below k ws) ws))
  insert-new [] n h = absurd (omega arith)
  insert-new (None ∷ ws) n h = refl
  insert-new (Some x ∷ ws) n h =
      sides (side_of x.key k)
      (λ l. rw l (ap (λ (r : List Row). Some x ∷ r) (insert-new ws (rw (less-same x.key k l) at n) h)))
      (λ e. none-some x.doc (sym (rw (equal-same x.key k e) at n)))
      (λ g. rw g)

  pub free-insert : (ws : List Row) → find_row ws k ≡ None → 0 < free_rows ws → suc (free_rows (insert_row ws k d)) ≡ free_rows ws
  free-insert [] n h = absurd (omega arith)
  free-insert (None ∷ ws) n h = refl
  free-insert (Some x ∷ ws) n h =
      sides (side_of x.key k)
      (λ l. rw l (free-insert ws (rw (less-same x.key k l) at n) h))
      (λ e. none-some x.doc (sym (rw (equal-same x.key k e) at n)))
      (λ g. rw g (free-less ws h))

  pub free-over : (ws : List Row) (e : Doc) → EachFollows ws → find_row ws k ≡ Some e → free_rows (insert_row ws k d) ≡ free_rows ws
  free-over [] e c f = none-some e f
  free-over (None ∷ ws) e c f = none-some e (sym (not_after k None ws c.0 (not-less Greater refl)) ∙ f)
  free-over (Some x ∷ ws) e c f =
      sides (side_of x.key k)
      (λ l. rw l (free-over ws e c.1 (rw (less-same x.key k l) at f)))
      (λ q. rw q)
      (λ g. none-some e (sym (not-above x ws c.0 g) ∙ f))

  pub length-insert : (ws : List Row) → EachFollows ws → (find_row ws k ≡ None → 0 < free_rows ws) → length (insert_row ws k d) ≡ length ws
  length-insert [] c room = refl
  length-insert (None ∷ ws) c room = refl
  length-insert (Some x ∷ ws) c room =
      sides (side_of x.key k)
      (λ l. rw l (ap suc (length-insert ws c.1 (λ n. room (rw (less-same x.key k l) n)))))
      (λ e. rw e)
      (λ g. rw g (ap suc (length-less ws (room (not-above x ws c.0 g)))))

  follow-insert : (w : Row) (ws : List Row) → AllFollow w ws → follows w (Some new) ≡ true → AllFollow w (insert_row ws k d)
  follow-insert w [] a f = tt
  follow-insert w (None ∷ ws) a f = (f, a.1)
  follow-insert w (Some x ∷ ws) a f =
      sides (side_of x.key k)
      (λ l. rw l (a.0, follow-insert w ws a.1 f))
      (λ e. rw e (f, a.1))
      (λ g. rw g (f, (a.0, follow-less w ws a.1)))

  each-insert : (ws : List Row) → EachFollows ws → EachFollows (insert_row ws k d)
  each-insert [] c = tt
  each-insert (None ∷ ws) c = (follow-trans (Some new) None ws refl c.0, c.1)
  each-insert (Some x ∷ ws) c =
      sides (side_of x.key k)
      (λ l. rw l (follow-insert (Some x) ws c.0 (rw l), each-insert ws c.1))
      (λ e. rw e (follow-key x new ws (side-equal x.key k e) c.0, c.1))
      (λ g.
      let f : follows (Some new) (Some x) ≡ true = rw (side-flip x.key k, g) in
      let a = follow-less (Some x) ws c.0 in
      rw g ((f, follow-trans (Some new) (Some x) (one_free_less ws) f a), (a, each-less ws c.1)))

  pub ordered-insert : (ws : List Row) → ordered ws ≡ true → ordered (insert_row ws k d) ≡ true
  ordered-insert ws o = each-ordered (insert_row ws k d) (each-insert ws (ordered-each ws o))

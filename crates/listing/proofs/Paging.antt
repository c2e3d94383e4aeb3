-- Paging: each page is asked for from the last key of the one before, begins with it, goes on with what was cut, and so comes to the end. specs/Claims.antt.
use native.Mathlib.Omega.{arith}
use Prim.Native.Nat.{ℕ, zero, suc, ◌-◌, ◌≤◌}
use mathlib.Core.Path.{◌≡◌, refl, sym, ap, ◌∙◌}
use mathlib.Core.Logic.{inl, inr}
use mathlib.Core.List.{List, [], ◌∷◌, ◌++◌, append_assoc}
use Rattle.std.specs.Prelude.{Some}
use lib.ListN.{length, drop, length-append}
use Rattle.document.specs.Documents.{Key, Doc, Entry}
use Rattle.engine.specs.Engine.{find_entry, DistinctKeys}
use Rattle.listing.specs.Listing.{key_size, from_key, taken, keys_from, listed_keys}
use Rattle.listing.specs.Claims.{OneOf, Rising, Lists, BeginsWith, GoesOn, last_or, more_pages, pages, PagesAll}
use Rattle.listing.proofs.Members.{one-second, split, from-here}
use Rattle.listing.proofs.Taken.{taken_next}
use Rattle.listing.proofs.LiveKeys.{keys-rising, keys-lists, lists-keys, keys-again, keys-many}
use Rattle.listing.proofs.Exact.{left_keys, shown-left, lists}

-- the keys from one of them on are that one and those after it
from-there : (docs : List Entry) (clock : ℕ) (start : Key) (before : List Key) (last : Key) (rest : List Key) → DistinctKeys docs
    → keys_from docs clock start ≡ before ++ (last ∷ rest) → keys_from docs clock last ≡ last ∷ rest
from-there docs clock start before last rest g e =
    let m : OneOf last (keys_from docs clock start) = rw e (one-second last before (last ∷ rest) (inl refl)) in
    let r : Rising (before ++ (last ∷ rest)) = rw e at (keys-rising clock docs start g) in
    sym (keys-again clock docs start last (keys-lists clock docs start last g m).after) ∙ ap (from_key last) e ∙ from-here last before rest r

-- a key that is live comes first
key-first : (docs : List Entry) (clock : ℕ) (k : Key) → DistinctKeys docs → Lists docs clock k k → (rest : List Key) × (keys_from docs clock k ≡ k ∷ rest)
key-first docs clock k g l =
    let s = split k (keys_from docs clock k) (lists-keys clock docs k k l) in
    (s.rest, from-there docs clock k s.before k s.rest g s.all)

-- and is shown, with those after it as far as the rest of the room goes
first-shown : (docs : List Entry) (clock : ℕ) (start : Key) (count : ℕ) (k : Key) (rest : List Key) → length k ≤ 250 → 1 ≤ count → keys_from docs clock start ≡ k ∷ rest
    → listed_keys docs clock start count ≡ k ∷ taken (count - 1) (1278 - key_size k) rest
unfolding listed_keys
first-shown docs clock start count k rest b h e = ap (taken count 1278) e ∙ taken_next count 1278 k rest h (omega arith)

pub begins-with : BeginsWith
begins-with docs clock k count g l b h =
    let f = key-first docs clock k g l in
    (taken (count - 1) (1278 - key_size k) f.0, first-shown docs clock k count k f.0 b h f.1)

pub goes_on : GoesOn
goes_on docs clock start count before last g e =
    let out = left_keys docs clock start count in
    let all : keys_from docs clock start ≡ before ++ (last ∷ out) =
    sym (shown-left docs clock start count) ∙ ap (λ (ks : List Key). ks ++ out) e ∙ append_assoc before (last ∷ []) out in
    record { rest = out; all = all; next = from-there docs clock start before last out g all }

-- ---- all pages
before_last : Key → List Key → List Key
before_last c [] = []
before_last c (x ∷ xs) = c ∷ before_last x xs

last-split : (c : Key) (cs : List Key) → c ∷ cs ≡ before_last c cs ++ (last_or c cs ∷ [])
unfolding before_last
last-split c [] = refl
last-split c (x ∷ xs) = ap (λ (r : List Key). c ∷ r) (last-split x xs)

-- a page that shows a key: what it leaves out is what stands after its last key
record Page (docs : List Entry) (clock : ℕ) (start c : Key) (cs : List Key) : Type 0 where
  rest : List Key
  all : keys_from docs clock start ≡ (c ∷ cs) ++ rest
  next : keys_from docs clock (last_or c cs) ≡ last_or c cs ∷ rest

page : (docs : List Entry) (clock : ℕ) (start : Key) (count : ℕ) (c : Key) (cs : List Key) → DistinctKeys docs → listed_keys docs clock start count ≡ c ∷ cs → Page docs clock start c cs
page docs clock start count c cs g e =
    let last = last_or c cs in
    let cut = goes_on docs clock start count (before_last c cs) last g (e ∙ last-split c cs) in
    let rejoin = sym (append_assoc (before_last c cs) (last ∷ []) cut.rest) ∙ ap (λ (ks : List Key). ks ++ cut.rest) (sym (last-split c cs)) in
    record { rest = cut.rest; all = cut.all ∙ rejoin; next = cut.next }

-- one page more
more-step : (n : ℕ) (docs : List Entry) (clock : ℕ) (last : Key) (count : ℕ) (new : List Key) → drop 1 (listed_keys docs clock last count) ≡ new
    → more_pages (suc n) docs clock last count ≡ new ++ more_pages n docs clock (last_or last new) count
more-step n docs clock last count new e = ap (λ (ks : List Key). ks ++ more_pages n docs clock (last_or last ks) count) e

-- where no key is left, no page brings one
none-shown : (docs : List Entry) (clock : ℕ) (start : Key) (count : ℕ) → keys_from docs clock start ≡ [] → listed_keys docs clock start count ≡ []
unfolding listed_keys
none-shown docs clock start count e = ap (taken count 1278) e

none_more : (n : ℕ) (docs : List Entry) (clock : ℕ) (last : Key) (count : ℕ) → keys_from docs clock last ≡ [] → more_pages n docs clock last count ≡ []
none_more zero docs clock last count e = refl
none_more (suc n) docs clock last count e = more-step n docs clock last count [] (ap (drop 1) (none-shown docs clock last count e)) ∙ none_more n docs clock last count e

module _ (docs : List Entry) (clock : ℕ) (count : ℕ) (g : DistinctKeys docs) (short : (k : Key) (d : Doc) → find_entry docs k ≡ Some d → length k ≤ 250) (h : 2 ≤ count) where
  key-short : (start k : Key) → OneOf k (keys_from docs clock start) → length k ≤ 250
  key-short start k m = let l = keys-lists clock docs start k g m in short k l.doc l.found

  -- two keys fit, so a page from a known key brings a new one while any is left
  second-shown : (last c : Key) (cs : List Key) → keys_from docs clock last ≡ last ∷ (c ∷ cs)
      → listed_keys docs clock last count ≡ last ∷ (c ∷ taken (count - 1 - 1) (1278 - key_size last - key_size c) cs)
  second-shown last c cs e =
      let a = key-short last last (rw e (inl refl)) in
      let b = key-short last c (rw e (inr (inl refl))) in
      first-shown docs clock last count last (c ∷ cs) a (omega arith) e
      ∙ ap (λ (ks : List Key). last ∷ ks) (taken_next (count - 1) (1278 - key_size last) c cs (omega arith) (omega arith))

  -- as many further pages as keys are left show them all
  more-all : (n : ℕ) (last : Key) (rest : List Key) → keys_from docs clock last ≡ last ∷ rest → length rest ≤ n → more_pages n docs clock last count ≡ rest
  more-all zero last [] e l = refl
  more-all zero last (c ∷ cs) e l = absurd (omega arith)
  more-all (suc n) last [] e l =
      let s = first-shown docs clock last count last [] (key-short last last (rw e (inl refl))) (omega arith) e in
      more-step n docs clock last count [] (ap (drop 1) s) ∙ more-all n last [] e (omega arith)
  more-all (suc n) last (c ∷ cs) e l =
      let new = taken (count - 1 - 1) (1278 - key_size last - key_size c) cs in
      let s = second-shown last c cs e in
      let p = page docs clock last count last (c ∷ new) g s in
      let q : c ∷ cs ≡ (c ∷ new) ++ p.rest = ap (drop 1) (sym e ∙ p.all) in
      let m : length p.rest ≤ n = omega (arith, l, ap length q, length-append (c ∷ new) p.rest) in
      more-step n docs clock last count (c ∷ new) (ap (drop 1) s)
      ∙ ap (λ (ks : List Key). (c ∷ new) ++ ks) (more-all n (last_or c new) p.rest p.next m)
      ∙ sym q

  pages-shown : (n : ℕ) (start c : Key) (cs : List Key) → keys_from docs clock start ≡ c ∷ cs → length cs ≤ n → pages n docs clock start count ≡ keys_from docs clock start
  pages-shown n start c cs e l =
      let new = taken (count - 1) (1278 - key_size c) cs in
      let s = first-shown docs clock start count c cs (key-short start c (rw e (inl refl))) (omega arith) e in
      let p = page docs clock start count c new g s in
      let q : c ∷ cs ≡ (c ∷ new) ++ p.rest = sym e ∙ p.all in
      let m : length p.rest ≤ n = omega (arith, l, ap length q, length-append (c ∷ new) p.rest) in
      ap (λ (ks : List Key). ks ++ more_pages n docs clock (last_or start ks) count) s
      ∙ ap (λ (ks : List Key). (c ∷ new) ++ ks) (more-all n (last_or c new) p.rest p.next m)
      ∙ sym p.all

pub pages-all : PagesAll
pages-all docs clock start count n g short h l =
    lists (keys_from docs clock start)
    (λ e.
    let s = none-shown docs clock start count e in
    ap (λ (ks : List Key). ks ++ more_pages n docs clock (last_or start ks) count) s ∙ none_more n docs clock start count e ∙ sym e)
    (λ c cs e. pages-shown docs clock count g short h n start c cs e (omega (arith, l, ap length e, keys-many docs clock start)))

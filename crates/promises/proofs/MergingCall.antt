-- A merging call on bytes is a merging call on abstract tables.
use Prim.Native.Nat.{ℕ, ◌+◌, ◌-◌, ◌≤◌}
use mathlib.Core.Path.{◌≡◌, refl}
use mathlib.Core.Bool.{Bool, true, false, not, ◌&&◌, and-false}
use mathlib.Core.List.{List, [], ◌∷◌, map}
use native.Mathlib.Omega.{arith}
use lib.ListN.{length}
use lib.Dec.{ltb, eqb}
use borrow.Author.Tests.{eqb-false, not-true, ltb-false}
use Rattle.octets.proofs.Choices.{cond-elim}
use Rattle.octets.proofs.Lists.{part_length, part-most}
use Rattle.numbers.specs.declared.Mode.{Mode}
use Rattle.numbers.specs.declared.Mode.TheVariants.{ByRevision, LastWrite}
use Rattle.shape.specs.Shapes.{Shape, among, shape_of}
use Rattle.header.specs.declared.Header.{Header}
use Rattle.header.specs.Header.{header_of}
use Rattle.with_meta.specs.declared.WithMeta.{WithMeta}
use Rattle.with_meta.specs.WithMeta.{with_meta}
use Rattle.rules.specs.Rules.{form_ok, field_rules_ok, is_forced, forces, meta_size, judged, status}
use Rattle.rules.proofs.RuleLaws.{parts-inside}
use Rattle.request.proofs.Gated.{whole-frame}
use Rattle.request.specs.Reading.{frame_status, extras_span, value_span, bytes_in}
use Rattle.commands.specs.declared.MetaKind.{MetaKind}
use Rattle.commands.specs.declared.MetaKind.TheVariants.{Set, Delete}
use Rattle.commands.specs.declared.Command.{Command}
use Rattle.commands.specs.declared.Command.TheVariants.{WithMeta as Metas}
use Rattle.commands.specs.Rules.{is_last}
use Rattle.decision.specs.Merging.{SetOrDelete, meta, meta_in}
use Rattle.decision.specs.Merging as abstract
use Rattle.decode.specs.Decode.{command_of, bare_value, request_of}
use Rattle.decode.specs.Decode as decoding
use Rattle.merge.specs.Merge.{All}
use Rattle.promises.specs.Calls.{Call}
use Rattle.promises.specs.Merge.{options_for, MergingCall}
use Rattle.promises.proofs.Asks.{at-opcode}

-- what a call asks for
abbrev pub asked : Bool → Call → abstract.RequestAt
asked forcing c = record { clock = c.clock; request = request_of forcing c.received (header_of c.received) }

-- ---- the command
abbrev Kinded : List ℕ → ℕ → Type 0
Kinded extras n = (k : MetaKind) × SetOrDelete k × (command_of (shape_of n).operation extras ≡ decoding.meta_command k (with_meta extras))

kind-of : (op : ℕ) (extras : List ℕ) → among op (0xa2 ∷ 0xa3 ∷ 0xa8 ∷ 0xa9 ∷ []) ≡ true → Kinded extras op
unfolding command_of shape_of
kind-of op extras e =
    at-opcode (Kinded extras) op (0xa2 ∷ 0xa3 ∷ 0xa8 ∷ 0xa9 ∷ [])
    ((Set, tt, refl), ((Set, tt, refl), ((Delete, tt, refl), ((Delete, tt, refl), tt)))) e

record Metaed (m : Mode) (x : Command) : Type 0 where
  with-meta : x ≡ Metas (meta_in x)
  kind : SetOrDelete (meta_in x).kind
  last : (meta_in x).last ≡ is_last m
  force : (meta_in x).force ≡ false
  regenerate : (meta_in x).regenerate ≡ false
  skip : (meta_in x).skip ≡ false

metaed : (m : Mode) (x : Command) (k : MetaKind) (w : WithMeta) → SetOrDelete k → x ≡ decoding.meta_command k w → w.options ≡ options_for m → Metaed m x
unfolding decoding.meta_command
metaed ByRevision x k w d e o = rw e (record { with-meta = refl; kind = d; last = rw o; force = rw o; regenerate = rw o; skip = rw o })
metaed LastWrite x k w d e o = rw e (record { with-meta = refl; kind = d; last = rw o; force = rw o; regenerate = rw o; skip = rw o })

-- ---- the value
judged-short : (s : Shape) (h : Header) (extras value : List ℕ) → judged s h extras value ≡ 0 → length value - meta_size s extras ≤ 1024
unfolding judged
judged-short s h extras value e =
    cond-elim (not (eqb s.status 0)) _ _ _ e
    (λ t z. absurd (eqb-false s.status 0 (not-true _ t) z))
    (λ t e₁. cond-elim (not (form_ok s h)) _ _ _ e₁ (λ u z. absurd (omega arith))
    (λ u e₂. cond-elim (not (field_rules_ok s extras value)) _ _ _ e₂ (λ v z. absurd (omega arith))
    (λ v e₃. cond-elim (forces s extras) _ _ _ e₃ (λ w z. absurd (omega arith))
    (λ w e₄. cond-elim (ltb 1024 (length value - meta_size s extras)) _ _ _ e₄ (λ x z. absurd (omega arith)) (λ x z. ltb-false _ _ x)))))

value-short : (s : List ℕ) (h : Header) → 24 + h.body ≤ length s → frame_status s h ≡ 0 → length (bare_value s h) ≤ 1024
unfolding bare_value frame_status value_span status
value-short s h w e =
    let i = parts-inside h (bytes_in s (extras_span h)) (bytes_in s (value_span h)) e in
    let n = h.body - (h.extlen + h.keylen) in
    let at = 24 + h.extlen + h.keylen in
    let l : length (bytes_in s (value_span h)) ≡ n = part_length s at n (omega arith) in
    let j = judged-short (shape_of h.opcode) h (bytes_in s (extras_span h)) (bytes_in s (value_span h)) e in
    let q = part-most s at (n - meta_size (shape_of h.opcode) (bytes_in s (extras_span h))) in
    omega arith

-- ---- the call
-- such a request has no option 0x01
not-forced : (m : Mode) (w : WithMeta) → w.options ≡ options_for m → is_forced w ≡ false
unfolding is_forced
not-forced ByRevision w e = rw e
not-forced LastWrite w e = rw e

supported : (forcing : Bool) (m : Mode) (s : Shape) (extras : List ℕ) → (with_meta extras).options ≡ options_for m → (forces s extras && not forcing) ≡ false
unfolding forces
supported forcing m s extras e = rw (not-forced m (with_meta extras) e, and-false (not (eqb s.meta 0)))

merging-asked : (forcing : Bool) (m : Mode) (v : ℕ) (c : Call) → MergingCall m v c → abstract.MergingRequest m v (meta (asked forcing c)) (asked forcing c)
unfolding request_of
merging-asked forcing m v c p =
    let s = c.received in
    let h = header_of s in
    let (k, d, e) = kind-of h.opcode (bytes_in s (extras_span h)) p.opcode in
    let x = metaed m (command_of (shape_of h.opcode).operation (bytes_in s (extras_span h))) k (with_meta (bytes_in s (extras_span h))) d e p.options in
    record {
      with-meta = x.with-meta;
      supported = supported forcing m (shape_of h.opcode) (bytes_in s (extras_span h)) p.options;
      kind = x.kind;
      mode = x.last;
      short = value-short s h (whole-frame s h p.whole).inside p.form;
      here = p.here;
      header-cas = p.header-cas;
      force = x.force;
      regenerate = x.regenerate;
      skip = x.skip;
    }

pub all_asked : (forcing : Bool) (m : Mode) (v : ℕ) (cs : List Call) → All (MergingCall m v) cs → All (λ c. abstract.MergingRequest m v (meta c) c) (map (asked forcing) cs)
all_asked forcing m v [] p = tt
all_asked forcing m v (c ∷ cs) p = (merging-asked forcing m v c p.0, all_asked forcing m v cs p.1)

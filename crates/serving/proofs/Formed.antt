-- A frame that keeps the rules of statuses 1 and 2 asks for a command whose form is right.
use Prim.Native.Nat.{ℕ, ◌+◌, ◌-◌, ◌≤◌}
use mathlib.Core.Path.{◌≡◌, refl}
use mathlib.Core.Bool.{Bool, true, false, cond, ◌&&◌, ◌||◌, or-false}
use mathlib.Core.List.{List}
use native.Mathlib.Omega.{arith}
use lib.ListN.{length}
use lib.Dec.{leb, eqb}
use borrow.Author.Tests.{eqb-true, leb-true}
use Rattle.octets.specs.Parts.{Bytes}
use Rattle.octets.proofs.Choices.{both}
use Rattle.octets.proofs.Lists.{bytes-part}
use Rattle.octets.proofs.Numbers.{num-below}
use Rattle.shape.specs.Shapes.{Shape, commands, shape_of}
use Rattle.shape.proofs.ShapeLaws.{each-shape}
use Rattle.header.specs.declared.Header.{Header}
use Rattle.with_meta.specs.declared.WithMeta.{WithMeta}
use Rattle.with_meta.specs.WithMeta.{with_meta}
use Rattle.with_meta.proofs.Layouts.{carried-fits}
use Rattle.with_meta.specs.FieldRules.{numbers_ok, body_ok, with_meta_ok}
use Rattle.rules.specs.Rules.{form_ok, extras_ok, key_ok, count_ok, field_rules_ok, status}
use Rattle.rules.proofs.RuleLaws.{formed, field-rules, judged-keeps}
use Rattle.request.specs.Reading.{extras_span, value_span, bytes_in, frame_status}
use Rattle.commands.specs.declared.Kind.{Kind}
use Rattle.commands.specs.declared.Kind.TheVariants.{Set, Add, Replace}
use Rattle.commands.specs.declared.MetaKind.{MetaKind}
use Rattle.commands.specs.declared.MetaKind.TheVariants.{Set as SetMeta, Add as AddMeta, Delete as DeleteMeta}
use Rattle.commands.specs.declared.Command.{Command}
use Rattle.commands.specs.declared.Command.TheVariants.{Get, Write, Delete, Count, Noop, Version, WithMeta as Metas, GetKeys, Join, Touch}
use Rattle.effects.specs.Done.{is_delete}
use Rattle.decision.specs.Claims.{Formed}
use Rattle.decode.specs.Decode.{plain_of, counter_of, touch_of, meta_command, command_of, request_of}
use Rattle.serving.specs.Serve.{reaches_decision}

pub no {ℓ} : {X : Type ℓ} → false ≡ true → X
no e = absurd (let y : ◌≡◌ {A = ℕ} 0 1 = cc in omega arith)

-- a property of a choice, by its test
pub by_cond {ℓ ℓ'} : {A : Type ℓ} (P : A → Type ℓ') (b : Bool) (x y : A) → (b ≡ true → P x) → (b ≡ false → P y) → P (cond b x y)
by_cond P true x y f g = f refl
by_cond P false x y f g = g refl

-- a frame with the reader's status 0 goes on
pub zero-reaches : (s : List ℕ) (h : Header) → frame_status s h ≡ 0 → reaches_decision s h ≡ true
unfolding frame_status status
zero-reaches s h e = judged-keeps (shape_of h.opcode) h (bytes_in s (extras_span h)) (bytes_in s (value_span h)) e

-- a command that writes has a key, of n bytes
abbrev pub Named : ℕ → Command → Type 0
Named n (Get k) = Unit {0}
Named n (Write p) = 1 ≤ n
Named n Delete = 1 ≤ n
Named n (Count k) = 1 ≤ n
Named n Noop = Unit {0}
Named n Version = Unit {0}
Named n (Metas w) = 1 ≤ n
Named n (GetKeys k) = Unit {0}
Named n (Join side) = 1 ≤ n
Named n (Touch t) = 1 ≤ n

-- ---- what the rules say, by parts
key-least : (key n : ℕ) → key ≡ 1 → key_ok key n ≡ true → 1 ≤ n
key-least key n p e = leb-true 1 n (both (leb 1 n) (leb n 250) (rw (p, or-false) at e)).0

meta-ok : (s : Shape) (extras value : List ℕ) (m : ℕ) → s.meta ≡ m → eqb m 0 ≡ false → field_rules_ok s extras value ≡ true → with_meta_ok m (with_meta extras) value ≡ true
unfolding field_rules_ok
meta-ok s extras value m p z e = rw (p, z) at (both (count_ok s.extras extras) (eqb s.meta 0 || with_meta_ok s.meta (with_meta extras) value) e).1

cas-least : (m : ℕ) (w : WithMeta) (value : List ℕ) → with_meta_ok m w value ≡ true → 1 ≤ w.numbers.cas.0
unfolding with_meta_ok numbers_ok
cas-least m w value e =
    let a = (both (leb w.section (length value)) _ e).1 in
    let b = (both (numbers_ok w) _ a).0 in
    leb-true 1 w.numbers.cas.0 (both (leb 1 w.numbers.cas.0) _ b).0

bare-delete : (w : WithMeta) (value : List ℕ) → with_meta_ok 2 w value ≡ true → (w.numbers.flags ≡ 0) × (w.numbers.expiry ≡ 0)
unfolding with_meta_ok body_ok
bare-delete w value e =
    let a = (both (leb w.section (length value)) _ e).1 in
    let b = (both (numbers_ok w) _ a).1 in
    let n = length value - w.section in
    let c = (both (body_ok 2 w n) _ b).0 in
    let d = (both (eqb n 0) (eqb w.numbers.flags 0 && eqb w.numbers.expiry 0) c).1 in
    let f = both (eqb w.numbers.flags 0) (eqb w.numbers.expiry 0) d in
    (eqb-true w.numbers.flags 0 f.0, eqb-true w.numbers.expiry 0 f.1)

-- the parts of a right form
pub record Form (s : Shape) (h : Header) : Type 0 where
  pub inside : h.extlen + h.keylen ≤ h.body
  pub extras : extras_ok s.extras h.extlen ≡ true
  pub key : key_ok s.key h.keylen ≡ true

form-parts : (s : Shape) (h : Header) → form_ok s h ≡ true → Form s h
unfolding form_ok
form-parts s h e =
    let a = both (eqb h.datatype 0) _ e in
    let b = both (leb (h.extlen + h.keylen) h.body) _ a.1 in
    let c = both (extras_ok s.extras h.extlen) _ b.1 in
    let d = both (key_ok s.key h.keylen) _ c.1 in
    record { inside = leb-true (h.extlen + h.keylen) h.body b.0; extras = c.0; key = d.0 }

module _ (forcing : Bool) (s : List ℕ) (y : Bytes s) (h : Header) (g : reaches_decision s h ≡ true) where
  abbrev extras : List ℕ
  extras = bytes_in s (extras_span h)

  abbrev value : List ℕ
  value = bytes_in s (value_span h)

  abbrev op : ℕ
  op = h.opcode

  form-ok : form_ok (shape_of op) h ≡ true
  form-ok = formed (shape_of op) h extras value g

  pub form : Form (shape_of op) h
  form = form-parts (shape_of op) h form-ok

  fields : field_rules_ok (shape_of op) extras value ≡ true
  fields = field-rules (shape_of op) h extras value g

  bytes : Bytes extras
  unfolding extras_span
  bytes = bytes-part s 24 h.extlen y

  abbrev Right : Command → Type 0
  Right c = Formed c × Named h.keylen c

  meta-right : (k : MetaKind) (m : ℕ) → 1 ≤ h.keylen → with_meta_ok m (with_meta extras) value ≡ true → (is_delete k ≡ true → m ≡ 2) → Right (meta_command k (with_meta extras))
  unfolding meta_command
  meta-right k m n r d = (
    (
      carried-fits extras bytes,
      cas-least m (with_meta extras) value r,
      λ t. bare-delete (with_meta extras) value (rw (d t) at r),
    ),
    n,
  )

  plain-right : (k : Kind) → 1 ≤ h.keylen → Right (plain_of k extras)
  unfolding plain_of
  plain-right k n = ((num-below extras 0 4 bytes, num-below extras 4 4 bytes), n)

  count-right : (up : Bool) → 1 ≤ h.keylen → Right (counter_of up extras)
  unfolding counter_of
  count-right up n = (num-below extras 16 4 bytes, n)

  touch-right : (shown : Bool) → 1 ≤ h.keylen → Right (touch_of shown extras)
  unfolding touch_of
  touch-right shown n = (num-below extras 0 4 bytes, n)

  -- a shape whose form and field rules are kept asks for a right command
  abbrev Kept : Shape → Type 0
  Kept x = Form x h → field_rules_ok x extras value ≡ true → Right (command_of x.operation extras)

  key-there : (x : Shape) → x.key ≡ 1 → Form x h → 1 ≤ h.keylen
  key-there x p f = key-least x.key h.keylen p f.key

  carries : (k : MetaKind) (x : Shape) → x.key ≡ 1 → eqb x.meta 0 ≡ false → (is_delete k ≡ true → x.meta ≡ 2)
      → Form x h → field_rules_ok x extras value ≡ true → Right (meta_command k (with_meta extras))
  carries k x p z d f r = meta-right k x.meta (key-there x p f) (meta-ok x extras value x.meta refl z r) d

  pub command-right : Formed (request_of forcing s h).command × Named h.keylen (request_of forcing s h).command
  unfolding request_of command_of commands
  command-right =
      each-shape Kept op (
        (λ q f r. (tt, tt)),
        (
          (λ q f r. (tt, tt)),
          (
            (λ q f r. plain-right Set (key-there _ refl f)),
            (
              (λ q f r. plain-right Add (key-there _ refl f)),
              (
                (λ q f r. plain-right Replace (key-there _ refl f)),
                (
                  (λ q f r. (tt, key-there _ refl f)),
                  (
                    (λ q f r. count-right true (key-there _ refl f)),
                    (
                      (λ q f r. count-right false (key-there _ refl f)),
                      (
                        (λ q f r. (tt, tt)),
                        (
                          (λ q f r. (tt, tt)),
                          (
                            (λ q f r. carries SetMeta _ refl refl (λ t. no t) f r),
                            (
                              (λ q f r. carries AddMeta _ refl refl (λ t. no t) f r),
                              (
                                (λ q f r. carries DeleteMeta _ refl refl (λ t. refl) f r),
                                (
                                  (λ q f r. (tt, tt)),
                                  (
                                    (λ q f r. (tt, key-there _ refl f)),
                                    (
                                      (λ q f r. (tt, key-there _ refl f)),
                                      ((λ q f r. touch-right false (key-there _ refl f)), ((λ q f r. touch-right true (key-there _ refl f)), tt)),
                                    ),
                                  ),
                                ),
                              ),
                            ),
                          ),
                        ),
                      ),
                    ),
                  ),
                ),
              ),
            ),
          ),
        ),
      )
      (λ f r. (tt, tt))
      (λ f r. (tt, tt))
      form fields

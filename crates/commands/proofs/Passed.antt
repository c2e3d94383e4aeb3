-- What a decision with status 0 can count on: no test has failed.
use native.Mathlib.Omega.{arith}
use Prim.Native.Nat.{ℕ}
use mathlib.Core.Path.{◌≡◌, refl}
use mathlib.Core.Bool.{Bool, true, false, cond}
use lib.Dec.{ltb}
use borrow.Author.Tests.{ltb-true}
use Rattle.commands.specs.declared.Tests.{Tests}
use Rattle.commands.specs.Rules.{first_status, first_failure}

pub record Passed (x : Tests) : Type 0 where
  pub fault : x.fault ≡ false
  pub unsupported : x.unsupported ≡ false
  pub long : x.long ≡ false
  pub elsewhere : x.elsewhere ≡ false
  pub unstored : x.unstored ≡ false
  pub missing : x.missing ≡ false
  pub conflict : x.conflict ≡ false
  pub joined : x.joined ≡ false
  pub number : x.number ≡ false
  pub spent : x.spent ≡ false
  pub full : x.full ≡ false

clear : (b : Bool) (s r : ℕ) → ltb 0 s ≡ true → cond b s r ≡ 0 → (b ≡ false) × (r ≡ 0)
clear true s r p e = let l = ltb-true 0 s p in absurd (omega arith)
clear false s r p e = (refl, e)

pub passed : (x : Tests) → first_status x ≡ 0 → Passed x
unfolding first_status first_failure
passed x e =
    let (e1, e) = clear _ 0x04 _ refl e in
    let (e2, e) = clear _ 0x83 _ refl e in
    let (e3, e) = clear _ 0x03 _ refl e in
    let (e4, e) = clear _ 0x07 _ refl e in
    let (e5, e) = clear _ 0x05 _ refl e in
    let (e6, e) = clear _ 0x01 _ refl e in
    let (e7, e) = clear _ 0x02 _ refl e in
    let (e8, e) = clear _ 0x03 _ refl e in
    let (e9, e) = clear _ 0x06 _ refl e in
    let (e10, e) = clear _ 0x84 _ refl e in
    let (e11, e) = clear _ 0x82 _ refl e in
    record { fault = e1; unsupported = e2; long = e3; elsewhere = e4; unstored = e5; missing = e6; conflict = e7; joined = e8; number = e9; spent = e10; full = e11 }

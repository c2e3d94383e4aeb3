use Prim.Native.Nat.{ℕ}
use mathlib.Core.Path.{◌≡◌, sym, ap, ◌∙◌}
use mathlib.Core.Bool.{Bool, false}
use mathlib.Core.List.{List}
use lib.ListN.{length}
use Rattle.shape.specs.Shapes.{Shape}
use Rattle.shape.specs.declared.Operation.{Operation}
use Rattle.header.specs.declared.Header.{Header}
use Rattle.commands.specs.declared.Command.{Command}
use Rattle.commands.specs.declared.Instruction.{Instruction}
use Rattle.decode.specs.declared.Family.{Family}
use Rattle.std.specs.Prelude.{Some}
use Rattle.decode.specs.Decode.{family_of, instruction_with, decoded_as, decoded_by}
use Rattle.decode.proofs.decoded_by.Goals as goal

-- a frame's family, as the code has found it by the shape's operation
told : (forcing : Bool) (s : Shape) (h : Header) (extras value : List ℕ) (o : Operation) (f g : Family) → o ≡ s.operation → f ≡ family_of o → f ≡ g
    → decoded_as forcing g s h extras value ≡ decoded_by forcing s h extras value
unfolding decoded_by
told forcing s h extras value o f g p e d = ap (λ (x : Family). decoded_as forcing x s h extras value) (sym d ∙ e ∙ ap family_of p)

pub returns-in-Bare : goal.returns-in-Bare
returns-in-Bare g c =
    let a = c.args in
    ap Some c.instruction_with.ensures
    ∙ told a.forcing (g.S.ShapeCode.told a.shape) a.h a.extras.now a.value.now _ _ _ c.operation.ensures c.family_of.ensures c.in-Bare.is

pub returns-in-Stored : goal.returns-in-Stored
returns-in-Stored g c =
    let a = c.args in
    let made : Command → Instruction = λ x. instruction_with (g.S.ShapeCode.told a.shape) a.h x (length a.value.now) false in
    ap Some (c.instruction_with-in-Stored.ensures ∙ ap made c.plain_of.ensures)
    ∙ told a.forcing (g.S.ShapeCode.told a.shape) a.h a.extras.now a.value.now _ _ _ c.operation.ensures c.family_of.ensures c.in-Stored.is

pub returns-in-Counted : goal.returns-in-Counted
returns-in-Counted g c =
    let a = c.args in
    let made : Command → Instruction = λ x. instruction_with (g.S.ShapeCode.told a.shape) a.h x (length a.value.now) false in
    ap Some (c.instruction_with-in-Counted.ensures ∙ ap made c.counter_of.ensures)
    ∙ told a.forcing (g.S.ShapeCode.told a.shape) a.h a.extras.now a.value.now _ _ _ c.operation.ensures c.family_of.ensures c.in-Counted.is

pub returns-in-Carried : goal.returns-in-Carried
returns-in-Carried g c =
    let a = c.args in
    c.meta_decoded.ensures
    ∙ told a.forcing (g.S.ShapeCode.told a.shape) a.h a.extras.now a.value.now _ _ _ c.operation.ensures c.family_of.ensures c.in-Carried.is

pub returns-in-Listed : goal.returns-in-Listed
returns-in-Listed g c =
    let a = c.args in
    c.list_decoded.ensures
    ∙ told a.forcing (g.S.ShapeCode.told a.shape) a.h a.extras.now a.value.now _ _ _ c.operation.ensures c.family_of.ensures c.in-Listed.is

pub returns-in-Touched : goal.returns-in-Touched
returns-in-Touched g c =
    let a = c.args in
    let made : Command → Instruction = λ x. instruction_with (g.S.ShapeCode.told a.shape) a.h x (length a.value.now) false in
    ap Some (c.instruction_with-in-Touched.ensures ∙ ap made c.touch_of.ensures)
    ∙ told a.forcing (g.S.ShapeCode.told a.shape) a.h a.extras.now a.value.now _ _ _ c.operation.ensures c.family_of.ensures c.in-Touched.is

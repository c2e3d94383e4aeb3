-- `decode::family_of` meets its contract: each arm is a clause of the definition.
use Rattle.decode.proofs.family_of.Goals as goal

pub returns-in-Unknown : goal.returns-in-Unknown
returns-in-Unknown c = rw c.in-Unknown.is

pub returns-in-NotBuilt : goal.returns-in-NotBuilt
returns-in-NotBuilt c = rw c.in-NotBuilt.is

pub returns-in-Get : goal.returns-in-Get
returns-in-Get c = rw c.in-Get.is

pub returns-in-GetKey : goal.returns-in-GetKey
returns-in-GetKey c = rw c.in-GetKey.is

pub returns-in-Set : goal.returns-in-Set
returns-in-Set c = rw c.in-Set.is

pub returns-in-Add : goal.returns-in-Add
returns-in-Add c = rw c.in-Add.is

pub returns-in-Replace : goal.returns-in-Replace
returns-in-Replace c = rw c.in-Replace.is

pub returns-in-Delete : goal.returns-in-Delete
returns-in-Delete c = rw c.in-Delete.is

pub returns-in-Increment : goal.returns-in-Increment
returns-in-Increment c = rw c.in-Increment.is

pub returns-in-Decrement : goal.returns-in-Decrement
returns-in-Decrement c = rw c.in-Decrement.is

pub returns-in-Noop : goal.returns-in-Noop
returns-in-Noop c = rw c.in-Noop.is

pub returns-in-Version : goal.returns-in-Version
returns-in-Version c = rw c.in-Version.is

pub returns-in-SetWithMeta : goal.returns-in-SetWithMeta
returns-in-SetWithMeta c = rw c.in-SetWithMeta.is

pub returns-in-AddWithMeta : goal.returns-in-AddWithMeta
returns-in-AddWithMeta c = rw c.in-AddWithMeta.is

pub returns-in-DeleteWithMeta : goal.returns-in-DeleteWithMeta
returns-in-DeleteWithMeta c = rw c.in-DeleteWithMeta.is

pub returns-in-GetKeys : goal.returns-in-GetKeys
returns-in-GetKeys c = rw c.in-GetKeys.is

pub returns-in-Append : goal.returns-in-Append
returns-in-Append c = rw c.in-Append.is

pub returns-in-Prepend : goal.returns-in-Prepend
returns-in-Prepend c = rw c.in-Prepend.is

pub returns-in-Touch : goal.returns-in-Touch
returns-in-Touch c = rw c.in-Touch.is

pub returns-in-GetAndTouch : goal.returns-in-GetAndTouch
returns-in-GetAndTouch c = rw c.in-GetAndTouch.is

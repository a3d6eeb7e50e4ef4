-- What a pointer owns that C holds.
use Rattle.std.specs.Prelude.{Option, Some, None}
use Rattle.std.specs.Box.Ownership.{box_owns}
use Rattle.std.specs.contracts.impls.GlobalAllocator.TheImpl.{ghosts}
use base.Fml.{Fml, ftrue}
use denote.RattleType.{RattleType}
use denote.RawPtr.{Ptr}
use mir.Syntax.{Ty}

-- what a box of the value owns, and the right to free its memory; nothing if there is no value
abbrev pub owned : (Ty → Ptr → Fml) → (R : RattleType) → Ptr → Option R.Denot → Fml
owned holds R at None = ftrue
owned holds R at (Some value) = box_owns holds R at value

-- the right to free a block of the program's heap
abbrev pub may_free : Ty → Ptr → Fml
may_free = ghosts.dealloc_token (record { memory = record { seal = tt } })

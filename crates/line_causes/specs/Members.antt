-- Why a member of a line is not read.
use Rattle.std.specs.Prelude.{◌≡◌, ℕ, Bool, List, Option, is_some}
use Rattle.json.specs.Json.{Json as Data}
use Rattle.ocpi_json.specs.Standing.{standing_at}
use Rattle.ocpi_json.specs.declared.member_fault.MemberFault.{MemberFault}
use Rattle.line_causes.specs.declared.line_cause.LineCause.{LineCause}
use Rattle.line_causes.specs.declared.line_cause.LineCause.TheVariants.{Member}

-- the fault, and the text of what stands there if anything does
pub record IsMember (of_stream : Bool) (node : Data) (fault : MemberFault) (cause : LineCause) : Type 0 where
  pub found : Option (List ℕ)
  pub cause_is : cause ≡ Member fault found of_stream
  pub missing : is_some found ≡ is_some (standing_at fault node)

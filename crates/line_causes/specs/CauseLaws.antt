-- What holds of the answers with causes.
use Rattle.std.specs.Prelude.{◌≡◌, ◌⊎◌, ℕ, true, List, ◌++◌, Option, Some, Err, codes, flat_map, is_some, length, nat_le}
use Rattle.std.specs.List.{AllByRecursion}
use Rattle.ocpi_types.specs.Refusal.{refusal_number}
use Rattle.ocpi_types.specs.declared.config.Config.{Config}
use Rattle.plain_house.specs.Replies.{Reply}
use Rattle.plain_house.specs.declared.answer.Refused.{Refused}
use Rattle.plain_house.specs.declared.event.Event.{Event}
use Rattle.request_lines.specs.AnswerText.{answer_text}
use Rattle.line_streams.specs.State.{StreamState, empty_under}
use Rattle.line_streams.specs.Stream.{AreAnswered}
use Rattle.line_streams.specs.declared.reply.StreamReply.{StreamReply}
use Rattle.line_streams.specs.declared.reply.StreamReply.TheVariants.{House}
use Rattle.line_causes.specs.AnswersWithCauses.{AreAnsweredWithCauses, IsExplained, cause_member, is_by_line}
use Rattle.line_causes.specs.OwnCauses.{IsOwnCause}
use Rattle.line_causes.specs.Refused.{IsRefused}
use Rattle.line_causes.specs.StreamCauses.{IsCauseOfStreamLine}
use Rattle.line_causes.specs.declared.line_cause.LineCause.{LineCause}

-- an answer with causes, and the same without
pub record BothAnswers : Type 0 where
  pub explained : List ℕ
  pub plain : List ℕ

-- the answer is that of one of the refusals 1 to 12
pub record IsFirstTwelve (answer : List ℕ) : Type 0 where
  pub config : Config
  pub refused : Refused
  pub within : nat_le (refusal_number refused.refusal) 12 ≡ true
  pub answer_is : answer ≡ answer_text config (Err refused)

-- the answer to one of the refusals 1 to 12, with a member `cause` before its last brace
pub record HasCause (answers : BothAnswers) : Type 0 where
  pub why : LineCause
  pub front : List ℕ
  pub first_twelve : IsFirstTwelve answers.plain
  pub plain_is : answers.plain ≡ front ++ codes "}\n"
  pub explained_is : answers.explained ≡ front ++ cause_member why

-- both are the same, or one has a cause more
abbrev pub AreSameButForACause : BothAnswers → Type 0
AreSameButForACause answers = (answers.explained ≡ answers.plain) ⊎ HasCause answers

-- A stream that begins without events answers as one without causes: the answers are the same but for causes, and the states are the same.
abbrev pub AnswersAreTheSameButForCauses : Type 0
AnswersAreTheSameButForCauses =
    (config : Config) (lines : List (List ℕ)) (text : List ℕ) (now : StreamState) → AreAnsweredWithCauses (empty_under config) lines text now →
    (answers : List BothAnswers) × (length answers ≡ length lines) × AllByRecursion AreSameButForACause answers
    × (text ≡ flat_map (λ both. both.explained) answers) × AreAnswered (empty_under config) lines (flat_map (λ both. both.plain) answers) now

-- A line that is done now has a cause if and only if its reply is one of the refusals 1 to 12.
abbrev pub FirstTwelveHaveCauses : Type 0
FirstTwelveHaveCauses =
    (state : StreamState) (line name : List ℕ) (done : StreamReply) (cause : Option LineCause) → IsRefused state line (Some done) (Some name) →
    IsExplained state line cause → is_some cause ≡ is_by_line done

-- That cause is a cause of the line after any events and for any reply of a house: they play no part.
abbrev pub OwnCausesAreCauses : Type 0
OwnCausesAreCauses =
    (config : Config) (events : List Event) (line : List ℕ) (reply : Reply) (cause : LineCause) → IsOwnCause config line (Some cause) →
    IsCauseOfStreamLine config events (Some (House reply)) line cause

-- Lines lead to one state, with causes as without.
abbrev pub CausesLeadOneWay : Type 0
CausesLeadOneWay =
    (state : StreamState) (lines : List (List ℕ)) (one other : List ℕ) (now then : StreamState) → AreAnsweredWithCauses state lines one now →
    AreAnsweredWithCauses state lines other then → now ≡ then

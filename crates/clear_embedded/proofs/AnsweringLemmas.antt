-- A line whose answer is kept, and the kept answer as it is returned.
use Rattle.std.proofs.Common.{◌≡◌, List, ℕ, refl, sym, ap, subst, ◌∙◌, Option, Some, None}
use Rattle.line_causes.specs.JsonText.{json_text}
use Rattle.line_causes.specs.Refused.{IsRefused}
use Rattle.line_causes.specs.StreamCauses.{IsCauseOfStreamLine}
use Rattle.line_causes.specs.declared.line_cause.LineCause.{LineCause}
use Rattle.line_streams.specs.State.{StreamState}
use Rattle.line_streams.specs.declared.reply.StreamReply.{StreamReply}
use Rattle.line_streams.specs.Stream as stream
use Rattle.clear_embedded.specs.Answering.{Buffer, IsAnswered, IsCauseText, IsExplained, IsGivenAgain, IsLineDone, IsPut, IsRefusedLine, IsTooLong, IsWritten, refused_with}
use Rattle.clear_embedded.specs.Standing.{Refused, Standing}
use Rattle.clear_embedded.specs.declared.code.Code.{Code}
use Rattle.clear_embedded.specs.declared.code.Code.TheVariants.{Done, NoMemory, Closed, Open, NoJson, Member, NoLine, Kept, TooSmall, NotWritten, NothingKept, NotRefused}
use Rattle.std.proofs.lemmas.Option.{same_Some, none-some}

-- the cause of the last line, by the stream as it is
pub cause_of_last : (house : Standing) (state : StreamState) (refused : Refused) (cause : LineCause) (text : List ℕ) → house.stream ≡ state
    → house.refused ≡ Some refused → IsCauseOfStreamLine state.house.config state.house.events refused.done refused.line cause → text ≡ json_text cause
    → IsCauseText house text
cause_of_last house state refused cause text stream_is refused_is cause_is text_is = record {
  refused = refused;
  refused_is = refused_is;
  cause = cause;
  cause_is = subst (λ (it : StreamState). IsCauseOfStreamLine it.house.config it.house.events refused.done refused.line cause) (sym stream_is) cause_is;
  text_is = text_is;
}

-- a line whose answer is kept
pub kept_by : (house : Standing) (line text : List ℕ) (now : StreamState) (refused : Option Refused) (done : Option StreamReply) (name : Option (List ℕ))
    → house.kept ≡ None → stream.IsAnswered house.stream line text now → IsRefused house.stream line done name → refused ≡ refused_with line done name
    → IsLineDone house line text (Some text) (record { stream = now; kept = Some text; refused = refused })
kept_by house line text now refused done name nothing_kept answered is refused_is = record {
  nothing_kept = nothing_kept;
  answered = answered;
  kept_is = refl;
  refused = record { done = done; name = name; is = is; refused_is = refused_is };
}

pub answered_by : (code : Code) (house : Standing) (line text : List ℕ) (middle house' : Standing) (buffer : Buffer)
    → IsLineDone house line text (Some text) middle → IsGivenAgain code middle house' buffer → IsAnswered code house line house' buffer
answered_by Done house line text middle house' buffer done (found, same, is, written) = (
  text,
  record {
    nothing_kept = done.nothing_kept;
    answered = subst (λ (it : Standing). stream.IsAnswered house.stream line text it.stream) (sym is) done.answered;
    kept_is = ap (λ (it : Standing). it.kept) is;
    refused = subst (λ (it : Standing). IsRefusedLine house.stream line it.refused) (sym is) done.refused;
  },
  subst (λ (it : List ℕ). IsWritten it buffer) (same_Some _ _ (sym same ∙ done.kept_is)) written,
)
answered_by TooSmall house line text middle house' buffer done (found, same, is, long) = (
  text,
  subst (λ (it : Standing). IsLineDone house line text (Some text) it) (sym is) done,
  subst (λ (it : List ℕ). IsTooLong it buffer) (same_Some _ _ (sym same ∙ done.kept_is)) long,
)
answered_by NotWritten house line text middle house' buffer done (some, is, unwritten) =
    (text, subst (λ (it : Standing). IsLineDone house line text (Some text) it) (sym is) done, unwritten)
answered_by NothingKept house line text middle house' buffer done (kept, is, unwritten) = absurd (none-some _ (sym kept ∙ done.kept_is))
answered_by NoMemory house line text middle house' buffer done wrong = absurd wrong
answered_by Kept house line text middle house' buffer done wrong = absurd wrong
answered_by NoLine house line text middle house' buffer done wrong = absurd wrong
answered_by Closed house line text middle house' buffer done wrong = absurd wrong
answered_by Open house line text middle house' buffer done wrong = absurd wrong
answered_by NoJson house line text middle house' buffer done wrong = absurd wrong
answered_by Member house line text middle house' buffer done wrong = absurd wrong
answered_by NotRefused house line text middle house' buffer done wrong = absurd wrong

-- a cause that was put into the buffer
pub explained_by : (code : Code) (house : Standing) (text : List ℕ) (buffer : Buffer) → IsCauseText house text → IsPut code text buffer
    → IsExplained code house buffer
explained_by Done house text buffer is put = (text, is, put)
explained_by TooSmall house text buffer is put = (text, is, put)
explained_by NoMemory house text buffer is put = absurd put
explained_by Closed house text buffer is put = absurd put
explained_by Open house text buffer is put = absurd put
explained_by NoJson house text buffer is put = absurd put
explained_by Member house text buffer is put = absurd put
explained_by NoLine house text buffer is put = absurd put
explained_by Kept house text buffer is put = absurd put
explained_by NotWritten house text buffer is put = absurd put
explained_by NothingKept house text buffer is put = absurd put
explained_by NotRefused house text buffer is put = absurd put

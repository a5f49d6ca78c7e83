-- What a writing returns, and what the buffer holds after it.
use Rattle.std.specs.Prelude.{ℕ, if◌then◌else◌, List, ◌++◌, length, drop, Some, None, Ok, Err, Option, Result, nat_le}
use Rattle.parts.specs.declared.limits.TheConstants.{MOST_TEXT_MARKS}
use Rattle.parts.specs.declared.refusal.Refusal.{Refusal}

-- a number of marks that a text may have
abbrev pub few_marks : ℕ → Option ℕ
few_marks marks = if nat_le marks MOST_TEXT_MARKS then (Some marks) else None

-- the text's length, or why there is none
abbrev pub length_or_refusal : Result (List ℕ) Refusal → Result ℕ Refusal
length_or_refusal (Ok text) = Ok (length text)
length_or_refusal (Err why) = Err why

-- the buffer with the text in its front, or as it was
abbrev pub with_text : Result (List ℕ) Refusal → List ℕ → List ℕ
with_text (Ok text) buffer = text ++ drop (length text) buffer
with_text (Err why) buffer = buffer

-- What is answered is one.
use Rattle.std.specs.Prelude.{◌≡◌, ℕ, Bool, true, false, List}
use Rattle.tempest_words.specs.declared.request.Asked.{Asked}
use Rattle.tempest_words.specs.declared.request.Command.{Command}
use Rattle.tempest_words.specs.declared.request.Command.TheVariants as commands
use Rattle.tempest_run.specs.declared.answer.Answer.{Answer}
use Rattle.tempest_run.specs.Answering.{IsAnswer}

-- whether the answer may tell of one run or of another
abbrev pub has_many_answers : Command → Bool
has_many_answers commands.Run = true
has_many_answers (commands.Serial stride) = false
has_many_answers commands.Check = false
has_many_answers commands.Code = false
has_many_answers commands.Show = false
has_many_answers commands.Table = false
has_many_answers (commands.Sample k) = false
has_many_answers commands.Audit = false
has_many_answers (commands.Replay count) = false

-- The status and the text are a function of the words and the input, but for `run`: a sample is run on threads too, and has one
-- summary.
abbrev pub AnswerIsOne : Type 0
AnswerIsOne =
    (asked : Asked) (text : List ℕ) (a b : Answer) → has_many_answers asked.command ≡ false → IsAnswer asked text a →
    IsAnswer asked text b → a ≡ b

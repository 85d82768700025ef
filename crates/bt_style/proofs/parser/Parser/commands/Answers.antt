use Rattle.std.proofs.Common.{◌≡◌, arith}
use Rattle.std.specs.Prelude.{Some, None, Ok}
use Rattle.std.proofs.lemmas.Grind.{common_steps}
use Rattle.std.proofs.lemmas.Result.{err_from_is_err_and}
use Rattle.bt_style.specs.Program.{program_of}
use Rattle.bt_style.specs.Reader.{command_word}
use Rattle.bt_style.proofs.CommandLemmas.{ended, word_fails, command_fails}
use Rattle.bt_style.proofs.parser.Parser.commands.Goals as goal

pub returns-in_err-word : goal.returns-in_err-word
returns-in_err-word c =
    let p = err_from_is_err_and c.from_residual.result c.from_residual.ensures.1 in
    rw (p.1, p.2) (word_fails c.in_err-word.field-0.0 c.commands.stage (program_of c.commands.self.draft) c.commands.self.cursor c.commands.invariant c.in_err-word.ensures.gives)

pub returns-in_default : goal.returns-in_default
returns-in_default c =
    let w : command_word c.commands.self.cursor ≡ Ok None = grind (arith, common_steps, c.in_ok-word.ensures.gives) in
    ended c.commands.stage (program_of c.commands.self.draft) c.commands.self.cursor c.commands.invariant w

pub returns-in_err-stage : goal.returns-in_err-stage
returns-in_err-stage c =
    let p = err_from_is_err_and c.from_residual-in_err-stage.result c.from_residual-in_err-stage.ensures.1 in
    let w : command_word c.commands.self.cursor ≡ Ok (Some (c.in-Some.word.now, c.in-Some.line, c.command_word.new.self)) = grind (arith, common_steps, c.in_ok-word.ensures.gives) in
    rw (p.1, p.2) (command_fails c.in_err-stage.field-0.0 c.commands.stage (program_of c.commands.self.draft) c.commands.self.cursor c.in-Some.word.now c.in-Some.line c.command_word.new.self c.commands.invariant w c.in_err-stage.ensures.gives)

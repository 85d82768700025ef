use Rattle.std.proofs.Common.{suc}
use Rattle.bt_style.specs.Program.{program_of}
use Rattle.bt_style.specs.Token.{count}
use Rattle.bt_style.specs.Reader.{commands_at}
use Rattle.bt_style.specs.declared.verbs.Stage.TheVariants.{BeforeEntry}
use Rattle.bt_style.proofs.CommandLemmas.{Kept}
use Rattle.bt_style.proofs.parser.Parser.commands.Given as goal

abbrev pub invariant-commands : goal.invariant-commands
invariant-commands l =
    Kept (commands_at (suc (count l.fn.self.cursor)) BeforeEntry (program_of l.fn.self.draft) l.fn.self.cursor) l.stage (program_of l.self.draft) l.self.cursor

abbrev pub decreases-commands : goal.decreases-commands
decreases-commands l = count l.self.cursor

use Rattle.std.proofs.Common.{◌≡◌, ◌≤◌}
use Rattle.bt_style.specs.Program.{program_of}
use Rattle.bt_style.specs.Token.{count}
use Rattle.bt_style.specs.Declares.{names_at}
use Rattle.bt_style.proofs.parser.Parser.names.Given as goal

abbrev pub invariant-names : goal.invariant-names
invariant-names l = record {
  same : names_at l.list (program_of l.self.draft) l.self.cursor ≡ names_at l.list (program_of l.fn.self.draft) l.fn.self.cursor;
  shorter : count l.self.cursor ≤ count l.fn.self.cursor;
}

abbrev pub decreases-names : goal.decreases-names
decreases-names l = count l.self.cursor

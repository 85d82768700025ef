-- What a style declares, as an editor's outline.
use Rattle.std.specs.Prelude.{ℕ, Bool, true, false, if◌then◌else◌, List, [], ◌∷◌, ◌++◌}
use Rattle.bt_style_text.specs.declared.roles.Kind.{Kind}
use Rattle.bt_style_text.specs.declared.roles.Kind.TheVariants as kinds
use Rattle.bt_style_text.specs.declared.roles.Role.{Role}
use Rattle.bt_style_text.specs.declared.roles.Role.TheVariants as roles
use Rattle.bt_style_text.specs.declared.marks.Mark.{Mark}
use Rattle.bt_style_text.specs.declared.outline.Symbol.{Symbol}

abbrev pub start_by : Role → ℕ → ℕ → ℕ
start_by (roles.Command command) here start = here
start_by _ here start = start

-- where the last command begins after a mark
abbrev pub start_after : ℕ → Mark → ℕ
start_after start mark = start_by mark.role mark.start start

-- where a command ends that ended here so far, by the role of the next mark: `stop` if it begins another command, and
-- otherwise `go` with the new end
abbrev pub end_by : Role → ℕ → ℕ → ℕ → (ℕ → ℕ) → ℕ
end_by (roles.Command command) end next stop go = stop
end_by roles.Comment end next stop go = go end
end_by _ end next stop go = go next

-- Where a command ends of which these marks are left, and which ended here so far. Comments before the next command
-- aren't its own.
abbrev pub command_end : ℕ → List Mark → ℕ
command_end end [] = end
command_end end (mark ∷ marks) = end_by mark.role end mark.end end (λ e. command_end e marks)

-- whether a whole command declares a name of this kind, and no other name
abbrev pub has_command : Kind → Bool
has_command kinds.Function = true
has_command kinds.Macro = true
has_command _ = false

abbrev pub symbol_with : Kind → ℕ → Mark → List Mark → Symbol
symbol_with kind start mark behind =
    if has_command kind then record { kind = kind; name = mark; start = start; end = command_end mark.end behind }
    else record { kind = kind; name = mark; start = mark.start; end = mark.end }

abbrev pub symbol_by : Role → ℕ → Mark → List Mark → List Symbol
symbol_by (roles.Declared kind) start mark behind = symbol_with kind start mark behind ∷ []
symbol_by _ start mark behind = []

-- what a mark declares, in the command that begins here and of which these marks are left
abbrev pub symbol_of : ℕ → Mark → List Mark → List Symbol
symbol_of start mark behind = symbol_by mark.role start mark behind

abbrev pub symbols_from : ℕ → List Mark → List Symbol
symbols_from start [] = []
symbols_from start (mark ∷ behind) = symbol_of start mark behind ++ symbols_from (start_after start mark) behind

-- what a style declares
abbrev pub symbols_of : List Mark → List Symbol
symbols_of marks = symbols_from 0 marks

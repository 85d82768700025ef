-- What the law of the crate says. `proofs/laws/Laws.antt` proves it.
use Rattle.std.specs.Prelude.{◌≡◌, true}
use Rattle.std.specs.List.{list_all}
use Rattle.bibtex.specs.declared.state.State.{State}
use Rattle.bibtex.specs.Present.{shown as shown_in_session}
use Rattle.bt_run.specs.Meaning.{trace}
use Rattle.bt_files.specs.Names.{is_own_name}
use Rattle.bt_front.specs.Job.{names_of}
use Rattle.bt_session.specs.Author.{shown, steps_of}

-- If a session of `bibtex` admits each name, it shows the same, by the same steps.
abbrev pub PlainNamesStay : Type 0
PlainNamesStay = (s : State) → list_all is_own_name (names_of s.texts s.root) ≡ true
    → (shown s ≡ shown_in_session s) × (steps_of s ≡ trace s.texts s.root s.min)

-- Equal inputs have equal outcomes, wherever their entries stand.
use Rattle.std.proofs.Common.{◌≡◌, ℕ, List, Option, Some, None, refl, sym, ap, ◌∙◌}
use Rattle.std.specs.Prelude.{option_map, slice_index_or}
use Rattle.std.proofs.Math.Seq.{drop-append_seam}
use Rattle.bt_actions.specs.declared.entry.Entry.{Entry}
use Rattle.bt_style.specs.Program.{Program}
use Rattle.bt_actions.specs.World.{World, no_entry, entry_in}
use Rattle.bt_machine.specs.Step.{Finish, step, Own, own}
use Rattle.bt_actions.specs.View.{entries_in}
use Rattle.bt_machine.specs.OwnEntry.{IsPlace, cut, alone, with_variables, finish_back}
use Rattle.bt_machine.specs.laws.OwnEntry.{SameInputSameOutcome}
use Rattle.bt_machine.proofs.Local.{reads_in, step_local}

-- what is a step's own, where its entry stands alone
abbrev own_alone : Option ℕ → Finish → Own
own_alone y s =
    record {
      outcome =
          record {
            globals = s.world.globals;
            variables = option_map (λ (d : Entry). d.variables) (entry_in s.world.entries y);
            held = s.world.held;
            lines = s.world.lines;
            messages = s.world.messages;
            stop = s.stopped;
            calls = s.calls;
          };
      cost = s.cost;
    }

-- the variables that were put back are read again
variables_read : (x : Option ℕ) (w : World) (es : List Entry) → IsPlace x w → option_map (λ (d : Entry). d.variables) (entry_in (with_variables x w.entries (slice_index_or es 0 no_entry).variables) x) ≡ option_map (λ (d : Entry). d.variables) (entry_in es (alone x))
variables_read None w es h = refl
variables_read (Some n) w es h = ap (option_map (λ (d : Entry). d.variables)) (reads_in (Some n) w.entries w refl h (slice_index_or es 0 no_entry).variables)

-- what is a step's own stays, put back
own_back : (x : Option ℕ) (w : World) (s : Finish) → IsPlace x w → own x w (finish_back x w s) ≡ own_alone (alone x) s
own_back x w s h =
    let p = variables_read x w s.world.entries h in
    let q = drop-append_seam w.lines s.world.lines in
    let r = drop-append_seam w.messages s.world.messages in
    λ j. record {
      outcome =
          record {
            globals = s.world.globals;
            variables = p j;
            held = s.world.held;
            lines = q j;
            messages = r j;
            stop = s.stopped;
            calls = s.calls;
          };
      cost = s.cost;
    }

-- with equal entries there is an entry at both places or at none
alone_same : (x x' : Option ℕ) (es es' : List Entry) → entries_in (entry_in es x) ≡ entries_in (entry_in es' x') → alone x ≡ alone x'
alone_same None None es es' q = refl
alone_same None (Some n) es es' q = cc
alone_same (Some n) None es es' q = cc
alone_same (Some n) (Some n') es es' q = refl

-- equal inputs give equal outcomes and costs
pub same_input : (p : Program) → SameInputSameOutcome p
same_input p x x' t w w' h h' e =
    let a = alone_same x x' w.entries w'.entries (ap (λ (v : World). v.entries) e) in
    ap (own x w) (step_local p x t w h)
    ∙ own_back x w (step p (alone x) t (cut x w)) h
    ∙ ap (λ i. own_alone (alone x) (step p (alone x) t i)) e
    ∙ ap (λ y. own_alone y (step p y t (cut x' w'))) a
    ∙ sym (own_back x' w' (step p (alone x') t (cut x' w')) h')
    ∙ sym (ap (own x' w') (step_local p x' t w' h'))

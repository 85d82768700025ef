-- One value of many that are logged.
use Rattle.std.proofs.Common.{◌≡◌, ap, sym, ◌∙◌, append_assoc}
use Rattle.std.specs.Prelude.{List, [], ◌∷◌, map}
use Rattle.std.proofs.lemmas.Simd.{map-map}
use Rattle.bt_style.specs.declared.style.Function.{Function}
use Rattle.bt_style.specs.Program.{Program, Definition, definition_of, definitions_of}
use Rattle.bt_actions.specs.declared.complaint.Complaint.TheVariants.{Shown}
use Rattle.bt_actions.specs.Item.{Item}
use Rattle.bt_actions.specs.World.{World, told_message, with_stack}
use Rattle.bt_actions.specs.LogLines.{shown_value, log_stack}
use Rattle.bt_actions.specs.inner.Rows.{log_value}

-- the names of definitions are those of the functions
pub function_names : (fs : List Function) → map (λ (d : Definition). d.name) (definitions_of fs) ≡ map (λ (f : Function). f.name) fs
function_names fs = map-map (λ (d : Definition). d.name) definition_of fs

-- logging the topmost value and then the rest logs all
log_top : (p : Program) (v : Item) (vs : List Item) (w : World) → log_stack p (log_value p v (with_stack vs w)) ≡ log_stack p (with_stack (v ∷ vs) w)
log_top p v vs w = ap (λ ms. record w { messages = ms; stack = [] }) (append_assoc w.messages (told_message w (Shown (shown_value p v)) ∷ []) (map (λ u. told_message w (Shown (shown_value p u))) vs))

-- the same of worlds that are known by equations: before, without the topmost value, and after
pub log_stack_next : (p : Program) (v : Item) (before without after : World) → before.stack ≡ v ∷ without.stack → without ≡ with_stack without.stack before → after ≡ log_value p v without → log_stack p after ≡ log_stack p before
log_stack_next p v before without after top rest next = ap (log_stack p) (next ∙ ap (log_value p v) rest) ∙ log_top p v without.stack before ∙ ap (λ vs. log_stack p (with_stack vs before)) (sym top)

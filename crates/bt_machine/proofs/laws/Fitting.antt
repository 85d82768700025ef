-- A step's values fit again.
use Rattle.std.proofs.Common.{◌≡◌, ℕ, suc, true, false, List, [], ◌∷◌, length, Option, Some, None, refl, sym, ap, subst, ◌∙◌, arith}
use Rattle.std.specs.Prelude.{option_map, is_none, slice_index_or}
use Rattle.bt_style.specs.declared.style.Target.{Target}
use Rattle.bt_style.specs.declared.style.Target.TheVariants.{Builtin, Field, EntryNumber, EntryText, GlobalNumber, GlobalText, Function}
use Rattle.bt_style.specs.Tree.{Called, End, Then}
use Rattle.bt_style.specs.Program.{Program}
use Rattle.bt_actions.specs.declared.entry.Variables.{Variables}
use Rattle.bt_actions.specs.declared.entry.Entry.{Entry}
use Rattle.bt_actions.specs.Item.{Item}
use Rattle.bt_actions.specs.World.{World, no_entry}
use Rattle.bt_actions.specs.Assignment.{with_number, with_text, with_globals, put_if_right, own_changed, assigned}
use Rattle.bt_actions.specs.View.{entries_in}
use Rattle.bt_machine.specs.Eval.{Ending, Done, Stopped, eval}
use Rattle.bt_machine.specs.Step.{tick_limit, step, first_variables, world_in}
use Rattle.bt_machine.specs.inner.Cases.{counts_begun, step_begun, finish_of}
use Rattle.bt_machine.specs.laws.Fits.{Count, Fits, OwnFit, ValuesFitAgain}
use Rattle.bt_machine.proofs.Keeping.{Kept}
use Rattle.bt_machine.proofs.laws.KeepingEval.{EndKept, eval_kept, checked_kept}
use Rattle.bt_machine.proofs.laws.Storing.{IsShort, EntryFits, number_fits, text_fits, own_fits, own_rest}

module _ (globals own : Count) (x : Option ℕ) (l : ℕ) where
  -- the entry at place x among l, and variables that fit
  abbrev RestFits : Option ℕ → List Entry → Variables → Type 0
  RestFits y es vs = (y ≡ x) × (length es ≡ l) × Fits globals vs × EntryFits own es x

  abbrev WorldFits : World → Type 0
  WorldFits w = RestFits w.current w.entries w.globals

  globals_kept : (o : Option Variables) (w : World) → WorldFits w → OwnFit globals o → WorldFits (put_if_right with_globals o w)
  globals_kept None w h f = h
  globals_kept (Some vs) w h f = (h.0, h.1, f, h.3)

  own_kept : (change : Variables → Option Variables) (w : World) → ((vs : Variables) → Fits own vs → OwnFit own (change vs)) → WorldFits w → WorldFits (own_changed change w.current w)
  own_kept change w f h =
      let r = own_rest change x w in
      let e = own_fits own change x w f h.3 in
      subst (λ y. WorldFits (own_changed change y w)) (sym h.0) (r.0 ∙ h.0, e.0 ∙ h.1, subst (Fits globals) (sym r.1) h.2, e.1)

  assigned_kept : (v : Item) (t : Target) (w : World) → IsShort v → WorldFits w → WorldFits (assigned (v, t) w)
  assigned_kept v (Builtin b) w s h = h
  assigned_kept v (Field n) w s h = h
  assigned_kept v (EntryNumber n) w s h = own_kept (with_number n v) w (number_fits own n v) h
  assigned_kept v (EntryText n) w s h = own_kept (with_text n v) w (λ vs. text_fits own n v vs s) h
  assigned_kept v (GlobalNumber n) w s h = globals_kept (with_number n v w.globals) w h (number_fits globals n v w.globals h.2)
  assigned_kept v (GlobalText n) w s h = globals_kept (with_text n v w.globals) w h (text_fits globals n v w.globals s h.2)
  assigned_kept v (Function n) w s h = h

  -- what every world of a step has whose values fit
  abbrev fitting : Kept
  fitting =
      record {
        Rest = RestFits;
        OnStack = IsShort;
        Pushed = λ v. Unit {0};
        numbers = λ n. tt;
        texts = λ t. tt;
        gaps = λ n. tt;
        again = λ v h. tt;
        short = λ v h s. s;
        assigns = assigned_kept;
      }

  -- what is left of such a world
  abbrev FinishKept : World → Type 0
  FinishKept w = (length w.entries ≡ l) × Fits globals w.globals × EntryFits own w.entries x

  finished_kept : (o : Ending) → EndKept fitting (λ c. tt) o → FinishKept (finish_of o).world
  finished_kept (Done w k) h =
      let i = checked_kept fitting (λ c. tt) w.stack w h in
      (i.0.1, i.0.2, i.0.3)
  finished_kept (Stopped w k) h = (h.0.1, h.0.2, h.0.3)

-- the first of some entries
first_fits : (c : Count) (n : ℕ) (es : List Entry) → length es ≡ suc n → EntryFits c es (Some 0) → OwnFit c (first_variables es) × (is_none (first_variables es) ≡ false)
first_fits c n [] l h = absurd (omega arith)
first_fits c n (e ∷ es) l h = (h.1, refl)

no_first : (c : Count) (es : List Entry) → length es ≡ 0 → OwnFit c (first_variables es) × (is_none (first_variables es) ≡ true)
no_first c [] l = (tt, refl)
no_first c (e ∷ es) l = absurd (omega arith)

-- a step in a world of one entry or none
fit_from : (p : Program) (globals own : Count) (o : Option Entry) (t : Target) (w : World) → w.entries ≡ entries_in o → Fits globals w.globals → OwnFit own (option_map (λ e. e.variables) o) → Fits globals (step p (option_map (λ e. 0) o) t w).world.globals × OwnFit own (first_variables (step p (option_map (λ e. 0) o) t w).world.entries) × (is_none (first_variables (step p (option_map (λ e. 0) o) t w).world.entries) ≡ is_none o)
fit_from p globals own None t w q h f =
    let b = Then (Called t) End in
    let w0 = step_begun None w in
    let k = finished_kept globals own None 0 (eval p b w0 counts_begun) (eval_kept (fitting globals own None 0) (λ c. tt) p tick_limit b w0 counts_begun ((refl, ap length q, h, tt), tt)) in
    let r = no_first own (step p None t w).world.entries k.0 in
    (k.1, r.0, r.1)
fit_from p globals own (Some e) t w q h f =
    let b = Then (Called t) End in
    let w0 = step_begun (Some 0) w in
    let l : length w.entries ≡ 1 = ap length q in
    let fits : EntryFits own w.entries (Some 0) = (omega arith, subst (λ es. Fits own (slice_index_or es 0 no_entry).variables) (sym q) f) in
    let k = finished_kept globals own (Some 0) 1 (eval p b w0 counts_begun) (eval_kept (fitting globals own (Some 0) 1) (λ c. tt) p tick_limit b w0 counts_begun ((refl, l, h, fits), tt)) in
    let r = first_fits own 0 (step p (Some 0) t w).world.entries k.0 k.2 in
    (k.1, r.0, r.1)

-- a step's values fit again
pub values_fit_again : (p : Program) → ValuesFitAgain p
values_fit_again p globals own i h e = fit_from p globals own i.entry i.target (world_in i) refl h e

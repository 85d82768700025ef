-- The marks of steps, with one step more.
use Rattle.std.specs.Prelude.{slice_get, ◌⊎◌}
use Rattle.std.specs.Option.{option_map}
use Rattle.std.proofs.Common.{◌≡◌, refl, sym, ap, ◌∙◌, subst, inl, inr, ℕ, Bool, List, [], ◌∷◌, ◌++◌, length, map, Option, Some, None, arith}
use Rattle.std.proofs.lemmas.Option.{slice_get_within, slice_get-map}
use Rattle.std.proofs.lemmas.List.{length-append, length-map}
use Rattle.bt_style.specs.declared.style.Target.{Target}
use Rattle.bt_actions.specs.declared.entry.Entry.{Entry}
use Rattle.bt_actions.specs.declared.entry.Variables.{Variables}
use Rattle.bt_actions.specs.World.{World, entry_in}
use Rattle.bt_machine.specs.declared.input.Input.{Input}
use Rattle.bt_run.specs.declared.course.Step.{Step}
use Rattle.bt_run.specs.declared.mark.Mark.{Mark}
use Rattle.bt_run.specs.Course.{input_at}
use Rattle.bt_run.specs.inner.Course.{variables_back}
use Rattle.bt_run.specs.inner.Earlier.{fixed, IsSameAt}
use Rattle.bt_run.specs.inner.Marks.{step_tag, bare_mark, AreMarked, HaveSameEntry, IsMark}
use Rattle.bt_run.proofs.EarlierLemmas.{fixed_back, last_or}

-- no steps
pub none_marked : (entries : List Entry) (steps : List Step) (marks : List Mark) → steps ≡ [] → marks ≡ [] → AreMarked entries steps marks
none_marked entries steps marks none empty = record {
  counted = ap length empty ∙ sym (ap length none);
  each = λ k s m at here. absurd (omega (arith, slice_get_within steps k s at, ap length none));
}

-- steps for no entry
pub bare_marked : (entries : List Entry) (steps : List Step) → AreMarked entries steps (map bare_mark steps)
bare_marked entries steps = record {
  counted = length-map steps bare_mark;
  each = λ k s m at here.
      let own : Some (bare_mark s) ≡ Some m = sym (ap (option_map bare_mark) at) ∙ sym (slice_get-map bare_mark steps k) ∙ here in
      let is : bare_mark s ≡ m = cc in
      subst (IsMark entries s) is (record { placed = λ n e. absurd cc; tagged = refl });
}

-- the entry of a step, where its mark says that it is known
pub same_marked : (entries : List Entry) (s : Step) (m : Mark) (i : Input) (place : Option ℕ) (same : List Bool) → IsMark entries s m → IsSameAt same m.place place → HaveSameEntry entries i place same → option_map fixed s.input.entry ≡ option_map fixed i.entry
same_marked entries s m i None same mark is h = absurd is
same_marked entries s m i (Some n) same mark is h = mark.placed n is.0 ∙ sym (h n refl is.1)

pub marked_more : (w : World) (steps : List Step) (marks : List Mark) (s : Step) (t : Target) (x : Option ℕ) (v : Option Variables) (tag : ℕ) → AreMarked w.entries steps marks → s.input ≡ input_at t x w → tag ≡ step_tag s → AreMarked (variables_back x v w.entries) (steps ++ s ∷ []) (marks ++ record { place = x; tag = tag } ∷ [])
marked_more w steps marks s t x v tag h is is_tag = record {
  counted = omega (arith, length-append steps (s ∷ []), length-append marks (mark ∷ []), h.counted);
  each = λ k a m at here. mark_or k a m (last_or steps s a k at) (last_or marks mark m k here);
}
  where
    mark : Mark
    mark = record { place = x; tag = tag }

    own : IsMark (variables_back x v w.entries) s mark
    own = record {
      placed = λ n e. ap (λ (i : Input). option_map fixed i.entry) is ∙ ap (λ y. option_map fixed (entry_in w.entries y)) e ∙ ap Some (sym (fixed_back x v w.entries n));
      tagged = is_tag;
    }

    mark_or : (k : ℕ) (a : Step) (m : Mark) → (slice_get steps k ≡ Some a) ⊎ ((k ≡ length steps) × (s ≡ a)) → (slice_get marks k ≡ Some m) ⊎ ((k ≡ length marks) × (mark ≡ m)) → IsMark (variables_back x v w.entries) a m
    mark_or k a m (inl at) (inl here) =
        let was = h.each k a m at here in
        record {
          placed = λ n e. was.placed n e ∙ ap Some (sym (fixed_back x v w.entries n));
          tagged = was.tagged;
        }
    mark_or k a m (inl at) (inr here) = absurd (omega (arith, slice_get_within steps k a at, here.0, h.counted))
    mark_or k a m (inr at) (inl here) = absurd (omega (arith, slice_get_within marks k m here, at.0, h.counted))
    mark_or k a m (inr at) (inr here) =
        subst (λ (b : Step). IsMark (variables_back x v w.entries) b m) at.1
        (subst (IsMark (variables_back x v w.entries) s) here.1 own)

-- Files that are looked up one after another.
use Rattle.std.proofs.Common.{◌≡◌, ◌∙◌, ap, sym, refl, subst, arith, ◌+◌, ◌<◌, ℕ, Bool, true, false, List, [], ◌∷◌, ◌++◌, length, take, get_or, map, append_assoc, append-nil, Option, None, Some}
use Rattle.std.proofs.lemmas.Grind.{flat_map-append}
use Rattle.std.proofs.lemmas.List.{map-append, length-append}
use Rattle.std.specs.List.{list_all}
use Rattle.bibtex.specs.declared.state.State.{State}
use Rattle.bibtex.specs.declared.edit.Refusal.{Refusal}
use Rattle.bibtex.specs.Present.{no_texts, shown}
use Rattle.bibtex.specs.Edit.{write}
use Rattle.bibtex.specs.Applied.{refusal_of, changed, state_or, unless_out_of_memory}
use Rattle.bibtex.specs.inner.Cases.{unless_refused}
use Rattle.bt_one_shot.specs.declared.folder.Found.{Found}
use Rattle.bt_one_shot.specs.declared.folder.Found.TheVariants as found
use Rattle.bt_one_shot.specs.Folders.{Contents, Seen, Gains, LooksUp, looked_up}
use Rattle.bt_streams.specs.Seen.{Sunk}
use Rattle.bt_one_shot.specs.inner.Sinks.{GoesOn}
use Rattle.bt_one_shot.specs.JobFiles.{LookedUp, name_of, next, taken_found, after_file, after_files, refusal_line, refusal_lines, InOrder, all_looked_up}
use Rattle.bt_one_shot.specs.inner.Progress.{LooksUpName, Goes, LoadsAll, LoadsSome}
use Rattle.bt_one_shot.proofs.TellLemmas.{goes_on_none, goes_on_more}
use Rattle.bt_one_shot.proofs.WantLemmas.{is_met, new_here}

-- Lists that are reported

pub gains_none : {A : Type 0} (a : Option (List A)) → Gains a a []
gains_none {A} None = tt
gains_none {A} (Some u) = sym (append-nil u)

pub gains_more : {A : Type 0} (a b c : Option (List A)) (xs ys : List A) → Gains a b xs → Gains b c ys → Gains a c (xs ++ ys)
gains_more {A} None b c xs ys p q = tt
gains_more {A} (Some u) None c xs ys p q = absurd p
gains_more {A} (Some u) (Some v) None xs ys p q = absurd q
gains_more {A} (Some u) (Some v) (Some w) xs ys p q = q ∙ ap (λ t. t ++ ys) p ∙ append_assoc u xs ys

-- Nothing was looked up.
pub looks_none : (seen : Seen) → LooksUp seen seen 0 []
looks_none seen = record { held = refl; counted = λ room. omega arith; gained = gains_none seen.looked_up; written = refl; failures = refl }

pub looks_more : (a b c : Seen) (i j : ℕ) (xs ys : List (List ℕ)) → LooksUp a b i xs → LooksUp b c j ys → LooksUp a c (i + j) (xs ++ ys)
looks_more a b c i j xs ys p q =
    record {
      held = q.held ∙ p.held;
      counted = λ room.
          let first = p.counted (omega arith) in
          let second = q.counted (omega arith) in
          omega arith;
      gained = gains_more a.looked_up b.looked_up c.looked_up xs ys p.gained q.gained;
      written = q.written ∙ p.written;
      failures = q.failures ∙ p.failures;
    }

-- Files, one after another

behind_more : (s : State) (xs ys : List LookedUp) → after_files s (xs ++ ys) ≡ after_files (after_files s xs) ys
behind_more s [] ys = refl
behind_more s (x ∷ xs) ys = behind_more (after_file s x) xs ys

lines_more : (s : State) (xs ys : List LookedUp) → refusal_lines s (xs ++ ys) ≡ refusal_lines s xs ++ refusal_lines (after_files s xs) ys
lines_more s [] ys = refl
lines_more s (x ∷ xs) ys =
    ap (λ t. refusal_line x.name (taken_found s x.name x.ran_out x.found) ++ t) (lines_more (after_file s x) xs ys)
    ∙ sym (append_assoc (refusal_line x.name (taken_found s x.name x.ran_out x.found)) _ _)

order_more : (held : Option Contents) (s : State) (met : List (List ℕ)) (xs ys : List LookedUp) → InOrder held s met xs →
    InOrder held (after_files s xs) (met ++ map name_of xs) ys → InOrder held s met (xs ++ ys)
order_more held s met [] ys p q = subst (λ m. InOrder held s m ys) (append-nil met) q
order_more held s met (x ∷ xs) ys p q = (
  p.0,
  p.1,
  order_more held (after_file s x) (met ++ x.name ∷ []) xs ys p.2
      (subst (λ m. InOrder held (after_files (after_file s x) xs) m ys) (sym (append_assoc met (x.name ∷ []) (map name_of xs))) q),
)

-- Nothing was looked up.
pub goes_none : (failures_before : ℕ) (s : State) (met : List (List ℕ)) (seen : Seen) (err : Sunk) → Goes failures_before s s met met seen seen err err
goes_none failures_before s met seen err =
    record {
      files = [];
      in_order = tt;
      is_after = refl;
      are_met = sym (append-nil met);
      looked_up = looks_none seen;
      tells = goes_on_none failures_before err;
    }

-- Some files, and then others.
pub goes_more : (failures_before : ℕ) (s t u : State) (k l m : List (List ℕ)) (a b c : Seen) (x y z : Sunk) →
    Goes failures_before s t k l a b x y → Goes failures_before t u l m b c y z → Goes failures_before s u k m a c x z
goes_more failures_before s t u k l m a b c x y z p q =
    record {
      files = p.files ++ q.files;
      in_order = order_more a.held s k p.files q.files p.in_order then_others;
      is_after = q.is_after ∙ ap (λ v. after_files v q.files) p.is_after ∙ sym (behind_more s p.files q.files);
      are_met = q.are_met ∙ ap (λ v. v ++ map name_of q.files) p.are_met ∙ append_assoc k (map name_of p.files) (map name_of q.files) ∙ ap (λ v. k ++ v) names;
      looked_up = subst (λ n. LooksUp a c n (all_looked_up (p.files ++ q.files))) (sym (length-append p.files q.files))
          (subst (LooksUp a c (length p.files + length q.files)) (sym (flat_map-append (λ (r : LookedUp). looked_up r.name r.found) p.files q.files))
          (looks_more a b c _ _ _ _ p.looked_up q.looked_up));
      tells = subst (GoesOn failures_before x z) lines (goes_on_more failures_before x y z _ _ p.tells q.tells);
    }
  where
    then_others : InOrder a.held (after_files s p.files) (k ++ map name_of p.files) q.files
    then_others = rw (← p.is_after, ← p.are_met, ← p.looked_up.held) q.in_order

    names : map name_of p.files ++ map name_of q.files ≡ map name_of (p.files ++ q.files)
    names = sym (map-append name_of p.files q.files)

    lines : refusal_lines s p.files ++ refusal_lines t q.files ≡ refusal_lines s (p.files ++ q.files)
    lines = ap (λ v. refusal_lines s p.files ++ refusal_lines v q.files) p.is_after ∙ sym (lines_more s p.files q.files)

-- The next file.
pub goes_one : (failures_before : ℕ) (s t : State) (met : List (List ℕ)) (name : List ℕ) (a b : Seen) (x y : Sunk) →
    next s met ≡ Some name → LooksUpName failures_before s t name a b x y → Goes failures_before s t met (met ++ name ∷ []) a b x y
goes_one failures_before s t met name a b x y is l =
    record {
      files = record { name = name; found = l.found; ran_out = l.ran_out } ∷ [];
      in_order = (is, l.finds, tt);
      is_after = l.is_after;
      are_met = refl;
      looked_up = subst (LooksUp a b 1) (sym (append-nil (looked_up name l.found))) l.looked_up;
      tells = subst (GoesOn failures_before x y) (sym (append-nil (refusal_line name (taken_found s name l.ran_out l.found)))) l.tells;
    }

-- The next file, after others.
pub goes_then : (failures_before : ℕ) (s t u : State) (k l l' : List (List ℕ)) (name : List ℕ) (a b c : Seen) (x y z : Sunk) (w : List (List ℕ)) (i : ℕ) (d : List ℕ) →
    Goes failures_before s t k l a b x y → w ≡ (shown t).wanted → i < length w → get_or w i d ≡ name → list_all (is_met l) (take i w) ≡ true → is_met l name ≡ false →
    l' ≡ l ++ name ∷ [] → LooksUpName failures_before t u name b c y z → Goes failures_before s u k l' a c x z
goes_then failures_before s t u k l l' name a b c x y z w i d before is lt here front fresh more looks =
    goes_more failures_before s t u k l l' a b c x y z before
    (rw more (goes_one failures_before t u l name b c y z (rw (← is) (new_here l name w i d lt here front fresh)) looks))

-- The root stays

made_root : (ran_out : Bool) (refusal : Option Refusal) (made s : State) → made.root ≡ s.root → (state_or s (unless_out_of_memory ran_out (unless_refused refusal made))).root ≡ s.root
made_root true None made s is = refl
made_root true (Some refusal) made s is = refl
made_root false None made s is = is
made_root false (Some refusal) made s is = refl

found_root : (s : State) (name : List ℕ) (ran_out : Bool) (found : Found) → (state_or s (taken_found s name ran_out found)).root ≡ s.root
found_root s name ran_out (found.Bytes text) = made_root ran_out (refusal_of (write name text) (length text) s) (changed (write name text) s) s refl
found_root s name ran_out found.Missing = refl
found_root s name ran_out found.NoRoom = refl

root_behind : (s : State) (files : List LookedUp) → (after_files s files).root ≡ s.root
root_behind s [] = refl
root_behind s (r ∷ rs) = root_behind (after_file s r) rs ∙ found_root s r.name r.ran_out r.found

-- after all files that were looked up
pub loads_root : (failures_before : ℕ) (root : List ℕ) (min : ℕ) (s : State) (a b : Seen) (x y : Sunk) → LoadsAll failures_before root min s a b x y → s.root ≡ root
loads_root failures_before root min s a b x y loads = ap (λ (u : State). u.root) loads.goes.is_after ∙ root_behind (no_texts root min) loads.goes.files

-- No file was looked up.
pub loads_none : (failures_before : ℕ) (root : List ℕ) (min : ℕ) (seen : Seen) (err : Sunk) → LoadsSome failures_before root min seen seen err err
loads_none failures_before root min seen err = record { reached = no_texts root min; met = []; goes = goes_none failures_before (no_texts root min) [] seen err }

-- What is kept of a run is kept of a run beside it, too.
use Rattle.std.specs.Prelude.{slice_get, slice_index_or, slice_set, bytes_eq}
use Rattle.std.specs.Option.{option_map}
use Rattle.std.proofs.Common.{◌≡◌, ◌≢◌, refl, sym, ap, ◌∙◌, subst, inl, inr, ℕ, zero, suc, ◌+◌, ◌<◌, Bool, true, false, List, [], ◌∷◌, length, All, Option, Some, None, arith}
use Rattle.std.proofs.lemmas.Bool.{cases_eq, cases_lt}
use Rattle.std.proofs.lemmas.List.{get_or_past, get_or-set_other, get_or-set_same}
use Rattle.std.proofs.lemmas.Option.{slice_get_within, slice_get-get_or}
use Rattle.std.proofs.lemmas.Slice.Eq.{bytes_eq-Decides}
use Rattle.bt_style.specs.Program.{Program}
use Rattle.bt_actions.specs.declared.entry.Entry.{Entry}
use Rattle.bt_actions.specs.World.{no_entry}
use Rattle.bt_machine.specs.declared.input.Input.{Input}
use Rattle.bt_run.specs.declared.course.Step.{Step}
use Rattle.bt_run.specs.declared.mark.Mark.{Mark}
use Rattle.bt_run.specs.Course.{key_in}
use Rattle.bt_run.specs.Work.{IsStep, same_key}
use Rattle.bt_run.specs.inner.Beside.{AreBeside, Difference, HasKey, IsNewStep, is_for, left}
use Rattle.bt_run.specs.inner.Earlier.{fixed, fixed_at}
use Rattle.bt_run.specs.inner.Marks.{AreMarked, IsMark, step_tag, tag_of}
use Rattle.bt_run.specs.inner.Turn.{AreInTurn, IsAfter}
use Rattle.bt_run.proofs.EarlierLemmas.{fixed_with}
use Rattle.bt_run.proofs.BesideStepsLemmas.{element, step_at}

pub some_same : {X : Type 0} (x y : X) → Some x ≡ Some y → x ≡ y
some_same x y h = let so : x ≡ y = cc in so

-- Which steps are for the entry

keyed_option : (o : Option Entry) (e : Entry) → option_map fixed o ≡ Some (fixed e) → option_map (λ (d : Entry). d.key) o ≡ Some e.key
keyed_option None e h = absurd cc
keyed_option (Some d) e h = ap (option_map (λ (c : Entry). c.key)) h

-- a step has the key of the entry that it was given
key_of : (p : Program) (s : Step) (e : Entry) → IsStep p s → option_map fixed s.input.entry ≡ Some (fixed e) → s.key ≡ Some e.key
key_of p s e is placed =
    ap (λ (t : Step). t.key) is.is
    ∙ keyed_option s.input.entry e placed

pub step_for : (p : Program) (key : List ℕ) (entries : List Entry) (ss : List Step) (k m : ℕ) (s : Step) (mark : Mark) → All (IsStep p) ss → IsMark entries s mark → mark.place ≡ Some m → slice_get ss k ≡ Some s → is_for key s ≡ bytes_eq (slice_index_or entries m no_entry).key key
step_for p key entries ss k m s mark all is at here =
    ap (λ (own : Option (List ℕ)). same_key own (Some key)) (key_of p s (slice_index_or entries m no_entry) (step_at p ss k s all here) (is.placed m at))

key_is : (o : Option (List ℕ)) (key : List ℕ) → same_key o (Some key) ≡ true → o ≡ Some key
key_is None key h = absurd cc
key_is (Some k) key h = ap Some ((bytes_eq-Decides k key).0 h)

module _ (p : Program) (key : List ℕ) where
  -- the entry stays the same, but for its variables
  fixed_left : (own : Bool) (o : Difference) (u : Step) → fixed (left own o u).entry ≡ fixed o.entry
  fixed_left true o u = fixed_with u.outcome.variables o.entry
  fixed_left false o u = refl

  pub last_fixed : (ss us : List Step) (o last : Difference) → AreBeside p key o ss us last → fixed last.entry ≡ fixed o.entry
  last_fixed [] [] o last is = ap (λ (m : Difference). fixed m.entry) is
  last_fixed [] (u ∷ us) o last is = absurd is
  last_fixed (s ∷ ss) [] o last is = absurd is
  last_fixed (s ∷ ss) (u ∷ us) o last is = last_fixed ss us (left (is_for key s) o u) last is.1 ∙ fixed_left (is_for key s) o u

  pub beside_length : (ss us : List Step) (o last : Difference) → AreBeside p key o ss us last → length us ≡ length ss
  beside_length [] [] o last is = refl
  beside_length [] (u ∷ us) o last is = absurd is
  beside_length (s ∷ ss) [] o last is = absurd is
  beside_length (s ∷ ss) (u ∷ us) o last is = ap suc (beside_length ss us (left (is_for key s) o u) last is.1)

  -- a step beside one, for an entry that is this one but for its variables
  abbrev IsPair : Entry → Step → Step → Type 0
  IsPair e s u = (o : Difference) × (fixed o.entry ≡ fixed e) × IsNewStep (is_for key s) p o s u

  pair_at : (ss us : List Step) (o last : Difference) → AreBeside p key o ss us last → (k : ℕ) (s u : Step) → slice_get ss k ≡ Some s → slice_get us k ≡ Some u → IsPair o.entry s u
  pair_at [] us o last is k s u here there = absurd (omega (arith, slice_get_within [] k s here))
  pair_at (r ∷ ss) [] o last is k s u here there = absurd is
  pair_at (r ∷ ss) (v ∷ us) o last is zero s u here there =
      let pair : IsPair o.entry r v = (o, refl, is.0) in
      subst (λ (t : Step). IsPair o.entry t u) (some_same r s here) (subst (λ (t : Step). IsPair o.entry r t) (some_same v u there) pair)
  pair_at (r ∷ ss) (v ∷ us) o last is (suc k) s u here there =
      let pair = pair_at ss us (left (is_for key r) o v) last is.1 k s u here there in
      (pair.0, pair.1 ∙ fixed_left (is_for key r) o v, pair.2)

  -- each is given what the one before it left
  after_first : (ss us : List Step) (o last : Difference) (u : Step) (own : Bool) → AreBeside p key (left own o u) ss us last → (v : Step) → slice_get us 0 ≡ Some v → IsAfter u v
  after_first ss [] o last u own is v next = absurd (omega (arith, slice_get_within [] 0 v next))
  after_first [] (w ∷ us) o last u own is v next = absurd is
  after_first (s ∷ ss) (w ∷ us) o last u own is v next =
      subst (IsAfter u) (some_same w v next) (record { globals = ap (λ (i : Input). i.globals) is.0.input; held = ap (λ (i : Input). i.held) is.0.input })

  pub in_turn_beside : (ss us : List Step) (o last : Difference) → AreBeside p key o ss us last → AreInTurn us
  in_turn_beside ss [] o last is n u v at next = absurd (omega (arith, slice_get_within [] n u at))
  in_turn_beside [] (w ∷ us) o last is n u v at next = absurd is
  in_turn_beside (s ∷ ss) (w ∷ us) o last is zero u v at next =
      subst (λ (t : Step). IsAfter t v) (some_same w u at) (after_first ss us o last w (is_for key s) is.1 v next)
  in_turn_beside (s ∷ ss) (w ∷ us) o last is (suc n) u v at next =
      let one_on : suc n + 1 ≡ suc (n + 1) = omega arith in
      in_turn_beside ss us (left (is_for key s) o w) last is.1 n u v at (sym (ap (slice_get (w ∷ us)) one_on) ∙ next)

  -- a step beside another has its tag
  tag_beside : (own : Bool) (o : Difference) (s u : Step) → is_for key s ≡ own → IsStep p s → o.entry.key ≡ key → IsNewStep own p o s u → step_tag u ≡ step_tag s
  tag_beside true o s u for is_step named is =
      let now : key_in u.input ≡ Some o.entry.key = ap key_in is.input in
      let was : key_in s.input ≡ Some key = sym (ap (λ (t : Step). t.key) is_step.is) ∙ key_is s.key key for in
      λ j. tag_of (is.command j) ((now ∙ ap Some named ∙ sym was) j)
  tag_beside false o s u for is_step named is =
      let now : key_in u.input ≡ key_in s.input = ap key_in is.input in
      λ j. tag_of (is.command j) (now j)

  module _ (ss us : List Step) (o last : Difference) (beside : AreBeside p key o ss us last) where
    -- the step that another is beside
    abbrev Old : ℕ → Step → Type 0
    Old k u = (s : Step) × (slice_get ss k ≡ Some s) × IsPair o.entry s u

    old_at : (k : ℕ) (u : Step) → slice_get us k ≡ Some u → Old k u
    old_at k u there =
        let lt : k < length ss = omega (arith, slice_get_within us k u there, beside_length ss us o last beside) in
        let old = element ss k lt in
        (old.0, old.1, pair_at ss us o last beside k old.0 u old.1 there)

    -- they are steps of the style
    pub steps_true : All (IsStep p) us
    steps_true k d lt =
        let old = old_at k (slice_index_or us k d) (slice_get-get_or us k d lt) in
        old.2.2.is

    -- entries stand where they stood, with the last one in its place
    placed_own : (own : Bool) (entries : List Entry) (n : ℕ) (d : Difference) (s u : Step) → own ≡ true → n < length entries → fixed d.entry ≡ fixed o.entry → IsNewStep own p d s u → option_map fixed u.input.entry ≡ Some (fixed_at (slice_set entries n last.entry) n)
    placed_own true entries n d s u own lt same is =
        ap (λ (i : Input). option_map fixed i.entry) is.input
        ∙ ap Some (same ∙ sym (last_fixed ss us o last beside) ∙ ap fixed (sym (get_or-set_same entries n last.entry no_entry lt)))
    placed_own false entries n d s u own lt same is = absurd cc

    placed_other : (own : Bool) (entries : List Entry) (n m : ℕ) (d : Difference) (s u : Step) → own ≡ false → m ≢ n → option_map fixed s.input.entry ≡ Some (fixed_at entries m) → IsNewStep own p d s u → option_map fixed u.input.entry ≡ Some (fixed_at (slice_set entries n last.entry) m)
    placed_other true entries n m d s u other apart placed is = absurd cc
    placed_other false entries n m d s u other apart placed is =
        ap (λ (i : Input). option_map fixed i.entry) is.input ∙ placed ∙ ap (λ (e : Entry). Some (fixed e)) (sym (get_or-set_other entries n m last.entry no_entry apart))

    placed_at : (entries : List Entry) (n i : ℕ) (d : Difference) (s u : Step) → n < length entries → HasKey n key entries → bytes_eq no_entry.key key ≡ false → is_for key s ≡ bytes_eq (slice_index_or entries i no_entry).key key → option_map fixed s.input.entry ≡ Some (fixed_at entries i) → fixed d.entry ≡ fixed o.entry → IsNewStep (is_for key s) p d s u → option_map fixed u.input.entry ≡ Some (fixed_at (slice_set entries n last.entry) i)
    placed_at entries n i d s u lt keyed some_key for was same is =
        elim (cases_eq i n) [
          | inl own ↦
              subst (λ (m : ℕ). option_map fixed u.input.entry ≡ Some (fixed_at (slice_set entries n last.entry) m)) (sym own)
              (placed_own (is_for key s) entries n d s u (for ∙ subst (λ (m : ℕ). bytes_eq (slice_index_or entries m no_entry).key key ≡ true) (sym own) (keyed.here lt)) lt same is)
          | inr apart ↦
              placed_other (is_for key s) entries n i d s u
              (for ∙ elim (cases_lt i (length entries)) [
                | inl below ↦ keyed.apart i below apart
                | inr past ↦ ap (λ (e : Entry). bytes_eq e.key key) (get_or_past entries i no_entry past) ∙ some_key
              ]) apart was is
        ]

    -- The marks stay, with the last entry in its place.
    pub marked_beside : (entries : List Entry) (marks : List Mark) (n : ℕ) → n < length entries → HasKey n key entries → bytes_eq no_entry.key key ≡ false → o.entry.key ≡ key → All (IsStep p) ss → AreMarked entries ss marks → AreMarked (slice_set entries n last.entry) us marks
    marked_beside entries marks n lt keyed some_key named all marked = record {
      counted = omega (arith, marked.counted, beside_length ss us o last beside);
      each = λ k u m there at.
          let old = old_at k u there in
          let s = old.0 in
          let mark = marked.each k s m old.1 at in
          record {
            placed = λ i e.
                placed_at entries n i old.2.0 s u lt keyed some_key (step_for p key entries ss k i s m all mark e old.1) (mark.placed i e) old.2.1 old.2.2;
            tagged = mark.tagged
                ∙ sym (tag_beside (is_for key s) old.2.0 s u refl (step_at p ss k s all old.1) (ap (λ (e : Entry). e.key) old.2.1 ∙ named) old.2.2);
          };
    }

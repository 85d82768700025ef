-- One document in the place of another.
use Rattle.std.proofs.Common.{◌≡◌, ◌∙◌, ap, sym, refl, subst, ◌+◌, ℕ, zero, suc, Bool, true, false, not, ◌||◌, cond, List, [], ◌∷◌, ◌++◌, take, drop, length, Option, Some, None, option_map, one-add, slice_index_or, slice_get, slice_set, ◌<◌, arith, ◌⊎◌, inl, inr}
use Rattle.std.specs.Prelude.{nat_lt, bytes_eq, position}
use Rattle.std.specs.List.{AllByRecursion, position_or_len}
use Rattle.std.proofs.Math.Dec.{leb-zero, leb-suc-suc}
use Rattle.std.proofs.lemmas.Cmp.{nat_list_eq_equiv}
use Rattle.std.proofs.lemmas.Slice.Eq.{bytes_eq-Decides}
use Rattle.bt_documents.specs.declared.document.Document.{Document}
use Rattle.bt_documents.specs.Documents.{with_document, opened, closed, IsGiven, AreGiven, any_behind, EachOnce, IsInStep, Follows}

-- which document has a name
abbrev pub place : List ℕ → List Document → Option ℕ
place name docs = position (λ (d : Document). bytes_eq d.name name) docs

place_more : (b : Bool) (n l : ℕ) → cond (nat_lt (cond (not b) (1 + n) 0) (suc l)) (Some (cond (not b) (1 + n) 0)) None ≡ cond b (Some 0) (option_map suc (cond (nat_lt n l) (Some n) None))
place_more true n l = rw (leb-suc-suc 0 l, leb-zero l) refl
place_more false n l = rw (one-add n, leb-suc-suc (suc n) l) (go (nat_lt n l))
  where
    go : (q : Bool) → cond q (Some (suc n)) None ≡ option_map suc (cond q (Some n) None)
    go true = refl
    go false = refl

place_step : (name : List ℕ) (d : Document) (ds : List Document) → place name (d ∷ ds) ≡ cond (bytes_eq d.name name) (Some 0) (option_map suc (place name ds))
place_step name d ds = place_more (bytes_eq d.name name) (position_or_len (λ (e : Document). bytes_eq e.name name) ds) (length ds)

-- where no document has the name
pub with_none : (name : List ℕ) (f : Document → Document) (docs : List Document) → place name docs ≡ None → with_document name f docs ≡ docs
with_none name f [] e = refl
with_none name f (d ∷ ds) e = go (with_none name f ds) (bytes_eq d.name name) (place name ds) refl (sym (place_step name d ds) ∙ e)
  where
    go : (place name ds ≡ None → with_document name f ds ≡ ds) → (b : Bool) (o : Option ℕ) → place name ds ≡ o → cond b (Some 0) (option_map suc o) ≡ None → cond b (f d ∷ ds) (d ∷ with_document name f ds) ≡ d ∷ ds
    go later true o is k = absurd (cc)
    go later false None is k = ap (λ l. d ∷ l) (later is)
    go later false (Some n) is k = absurd (cc)

-- where one has it
pub with_is_set : (name : List ℕ) (f : Document → Document) (docs : List Document) (n : ℕ) (o : Document) → place name docs ≡ Some n →
    with_document name f docs ≡ slice_set docs n (f (slice_index_or docs n o))
with_is_set name f [] n o e = absurd (cc)
with_is_set name f (d ∷ ds) n o e = go (λ m. with_is_set name f ds m o) (bytes_eq d.name name) (place name ds) n refl (sym (place_step name d ds) ∙ e)
  where
    go : ((m : ℕ) → place name ds ≡ Some m → with_document name f ds ≡ slice_set ds m (f (slice_index_or ds m o))) → (b : Bool) (q : Option ℕ) (n : ℕ) → place name ds ≡ q → cond b (Some 0) (option_map suc q) ≡ Some n →
        cond b (f d ∷ ds) (d ∷ with_document name f ds) ≡ slice_set (d ∷ ds) n (f (slice_index_or (d ∷ ds) n o))
    go later true q zero is k = refl
    go later true q (suc n) is k = absurd (cc)
    go later false None n is k = absurd (cc)
    go later false (Some m) zero is k = absurd (cc)
    go later false (Some m) (suc n) is k = let same : m ≡ n = cc in ap (λ l. d ∷ l) (later n (is ∙ ap Some same))

same_name : (a b : List ℕ) → bytes_eq a b ≡ true → a ≡ b
same_name a b h = (bytes_eq-Decides a b).0 h

-- documents of other names stay in step
others_stay : (text text' : List ℕ → Option (List ℕ)) (name : List ℕ) (docs : List Document) → ((other : List ℕ) → bytes_eq other name ≡ false → text' other ≡ text other) →
    AllByRecursion (λ (e : Document). bytes_eq e.name name ≡ false) docs → AllByRecursion (IsInStep text) docs → AllByRecursion (IsInStep text') docs
others_stay text text' name [] keep apart all = tt
others_stay text text' name (d ∷ ds) keep apart all =
    (λ t. keep d.name apart.0 ∙ all.0 t, others_stay text text' name ds keep apart.1 all.1)

step_with : (text text' : List ℕ → Option (List ℕ)) (name : List ℕ) (x : Document) (docs : List Document) → ((other : List ℕ) → bytes_eq other name ≡ false → text' other ≡ text other) →
    IsInStep text' x → EachOnce docs → AllByRecursion (IsInStep text) docs → AllByRecursion (IsInStep text') (with_document name (λ _. x) docs)
step_with text text' name x [] keep step once all = tt
step_with text text' name x (d ∷ ds) keep step once all = go (step_with text text' name x ds keep step once.1 all.1) (bytes_eq d.name name) refl
  where
    go : AllByRecursion (IsInStep text') (with_document name (λ _. x) ds) → (b : Bool) → bytes_eq d.name name ≡ b → AllByRecursion (IsInStep text') (cond b (x ∷ ds) (d ∷ with_document name (λ _. x) ds))
    go later true e =
        let apart = subst (λ m. AllByRecursion (λ (k : Document). bytes_eq k.name m ≡ false) ds) (same_name d.name name e) once.0 in
        (step, others_stay text text' name ds keep apart all.1)
    go later false e = (λ t. keep d.name e ∙ all.0 t, later)

-- names of documents stay apart from a name
apart_with : (name m : List ℕ) (x : Document) (docs : List Document) → x.name ≡ name → AllByRecursion (λ (e : Document). bytes_eq e.name m ≡ false) docs →
    AllByRecursion (λ (e : Document). bytes_eq e.name m ≡ false) (with_document name (λ _. x) docs)
apart_with name m x [] is all = tt
apart_with name m x (d ∷ ds) is all = go (apart_with name m x ds is all.1) (bytes_eq d.name name) refl
  where
    go : AllByRecursion (λ (e : Document). bytes_eq e.name m ≡ false) (with_document name (λ _. x) ds) → (b : Bool) → bytes_eq d.name name ≡ b → AllByRecursion (λ (e : Document). bytes_eq e.name m ≡ false) (cond b (x ∷ ds) (d ∷ with_document name (λ _. x) ds))
    go later true e = (ap (λ k. bytes_eq k m) (is ∙ sym (same_name d.name name e)) ∙ all.0, all.1)
    go later false e = (all.0, later)

once_with : (name : List ℕ) (x : Document) (docs : List Document) → x.name ≡ name → EachOnce docs → EachOnce (with_document name (λ _. x) docs)
once_with name x [] is once = tt
once_with name x (d ∷ ds) is once = go (once_with name x ds is once.1) (bytes_eq d.name name) refl
  where
    go : EachOnce (with_document name (λ _. x) ds) → (b : Bool) → bytes_eq d.name name ≡ b → EachOnce (cond b (x ∷ ds) (d ∷ with_document name (λ _. x) ds))
    go later true e =
        let same = is ∙ sym (same_name d.name name e) in
        (subst (λ m. AllByRecursion (λ (k : Document). bytes_eq k.name m ≡ false) ds) (sym same) once.0, once.1)
    go later false e = (apart_with name d.name x ds is once.0, later)

-- documents, one of which is another now, and files of which one has another text
pub follows_set : (text text' : List ℕ → Option (List ℕ)) (name : List ℕ) (x : Document) (docs : List Document) (n : ℕ) → place name docs ≡ Some n → x.name ≡ name →
    ((other : List ℕ) → bytes_eq other name ≡ false → text' other ≡ text other) → IsInStep text' x → Follows text docs → Follows text' (slice_set docs n x)
follows_set text text' name x docs n at is keep step now =
    let same = with_is_set name (λ _. x) docs n x at in
    record {
      once = subst EachOnce same (once_with name x docs is now.once);
      each = subst (AllByRecursion (IsInStep text')) same (step_with text text' name x docs keep step now.once now.each);
    }

-- A document that is opened

pub opened_is_set : (x : Document) (docs : List Document) (n : ℕ) → place x.name docs ≡ Some n → opened x docs ≡ slice_set docs n x
opened_is_set x [] n e = absurd (cc)
opened_is_set x (d ∷ ds) n e = go (λ m. opened_is_set x ds m) (bytes_eq d.name x.name) (place x.name ds) n refl (sym (place_step x.name d ds) ∙ e)
  where
    go : ((m : ℕ) → place x.name ds ≡ Some m → opened x ds ≡ slice_set ds m x) → (b : Bool) (q : Option ℕ) (n : ℕ) → place x.name ds ≡ q → cond b (Some 0) (option_map suc q) ≡ Some n →
        cond b (x ∷ ds) (d ∷ opened x ds) ≡ slice_set (d ∷ ds) n x
    go later true q zero is k = refl
    go later true q (suc n) is k = absurd (cc)
    go later false None n is k = absurd (cc)
    go later false (Some m) zero is k = absurd (cc)
    go later false (Some m) (suc n) is k = let same : m ≡ n = cc in ap (λ l. d ∷ l) (later n (is ∙ ap Some same))

-- where no document has the name
none_has : (name : List ℕ) (docs : List Document) → place name docs ≡ None → AllByRecursion (λ (e : Document). bytes_eq e.name name ≡ false) docs
none_has name [] e = tt
none_has name (d ∷ ds) e = go (none_has name ds) (bytes_eq d.name name) (place name ds) refl refl (sym (place_step name d ds) ∙ e)
  where
    go : (place name ds ≡ None → AllByRecursion (λ (e : Document). bytes_eq e.name name ≡ false) ds) → (b : Bool) (q : Option ℕ) → bytes_eq d.name name ≡ b → place name ds ≡ q →
        cond b (Some 0) (option_map suc q) ≡ None → AllByRecursion (λ (e : Document). bytes_eq e.name name ≡ false) (d ∷ ds)
    go later true q be is k = absurd (cc)
    go later false None be is k = (be, later is)
    go later false (Some m) be is k = absurd (cc)

pub opened_is_pushed : (x : Document) (docs : List Document) → AllByRecursion (λ (e : Document). bytes_eq e.name x.name ≡ false) docs → opened x docs ≡ docs ++ x ∷ []
opened_is_pushed x [] a = refl
opened_is_pushed x (d ∷ ds) a = rw a.0 (ap (λ l. d ∷ l) (opened_is_pushed x ds a.1))

all_behind : (P : Document → Type 0) (docs : List Document) (x : Document) → AllByRecursion P docs → P x → AllByRecursion P (docs ++ x ∷ [])
all_behind P [] x a p = (p, tt)
all_behind P (d ∷ ds) x a p = (a.0, all_behind P ds x a.1 p)

once_behind : (docs : List Document) (x : Document) → EachOnce docs → AllByRecursion (λ (e : Document). bytes_eq e.name x.name ≡ false) docs → EachOnce (docs ++ x ∷ [])
once_behind [] x once a = (tt, tt)
once_behind (d ∷ ds) x once a =
    (all_behind (λ (e : Document). bytes_eq e.name d.name ≡ false) ds x once.0 (nat_list_eq_equiv.symm x.name d.name ∙ a.0), once_behind ds x once.1 a.1)

-- the same with a document more
pub follows_push : (text text' : List ℕ → Option (List ℕ)) (x : Document) (docs : List Document) → place x.name docs ≡ None →
    ((other : List ℕ) → bytes_eq other x.name ≡ false → text' other ≡ text other) → IsInStep text' x → Follows text docs → Follows text' (docs ++ x ∷ [])
follows_push text text' x docs none keep step now =
    let apart = none_has x.name docs none in
    record {
      once = once_behind docs x now.once apart;
      each = all_behind (IsInStep text') docs x (others_stay text text' x.name docs keep apart now.each) step;
    }

pub opened_at_the_end : (x : Document) (docs : List Document) → place x.name docs ≡ None → opened x docs ≡ docs ++ x ∷ []
opened_at_the_end x docs none = opened_is_pushed x docs (none_has x.name docs none)

-- the text of a document that isn't in step doesn't matter
pub not_in_step : (text : List ℕ → Option (List ℕ)) (d : Document) → d.in_step ≡ false → IsInStep text d
not_in_step text d e t = absurd (cc)

-- files of which one has the text of a document that was opened
pub follows_opened : (text : List ℕ → Option (List ℕ)) (x : Document) (docs new : List Document) →
    new ≡ opened x docs → x.in_step ≡ false → Follows text docs → Follows text new
follows_opened text x docs new is behind now = subst (Follows text) (sym is) (go (place x.name docs) refl)
  where
    go : (o : Option ℕ) → place x.name docs ≡ o → Follows text (opened x docs)
    go None none = subst (Follows text) (sym (opened_at_the_end x docs none)) (follows_push text text x docs none (λ other apart. refl) (not_in_step text x behind) now)
    go (Some n) at = subst (Follows text) (sym (opened_is_set x docs n at)) (follows_set text text x.name x docs n at refl (λ other apart. refl) (not_in_step text x behind) now)

-- A document that is closed

pub closed_none : (name : List ℕ) (docs : List Document) → place name docs ≡ None → closed name docs ≡ docs
closed_none name docs none = go docs (none_has name docs none)
  where
    go : (ds : List Document) → AllByRecursion (λ (e : Document). bytes_eq e.name name ≡ false) ds → closed name ds ≡ ds
    go [] a = refl
    go (d ∷ ds) a = rw a.0 (ap (λ l. d ∷ l) (go ds a.1))

pub closed_is_cut : (name : List ℕ) (docs : List Document) (n : ℕ) → place name docs ≡ Some n → closed name docs ≡ take n docs ++ drop (suc n) docs
closed_is_cut name [] n e = absurd (cc)
closed_is_cut name (d ∷ ds) n e = go (λ m. closed_is_cut name ds m) (bytes_eq d.name name) (place name ds) n refl (sym (place_step name d ds) ∙ e)
  where
    go : ((m : ℕ) → place name ds ≡ Some m → closed name ds ≡ take m ds ++ drop (suc m) ds) → (b : Bool) (q : Option ℕ) (n : ℕ) → place name ds ≡ q → cond b (Some 0) (option_map suc q) ≡ Some n →
        cond b ds (d ∷ closed name ds) ≡ take n (d ∷ ds) ++ drop (suc n) (d ∷ ds)
    go later true q zero is k = refl
    go later true q (suc n) is k = absurd (cc)
    go later false None n is k = absurd (cc)
    go later false (Some m) zero is k = absurd (cc)
    go later false (Some m) (suc n) is k = let same : m ≡ n = cc in ap (λ l. d ∷ l) (later n (is ∙ ap Some same))

closed_all : (P : Document → Type 0) (name : List ℕ) (docs : List Document) → AllByRecursion P docs → AllByRecursion P (closed name docs)
closed_all P name [] a = tt
closed_all P name (d ∷ ds) a = go (closed_all P name ds a.1) (bytes_eq d.name name)
  where
    go : AllByRecursion P (closed name ds) → (b : Bool) → AllByRecursion P (cond b ds (d ∷ closed name ds))
    go later true = a.1
    go later false = (a.0, later)

closed_once : (name : List ℕ) (docs : List Document) → EachOnce docs → EachOnce (closed name docs)
closed_once name [] once = tt
closed_once name (d ∷ ds) once = go (closed_once name ds once.1) (bytes_eq d.name name)
  where
    go : EachOnce (closed name ds) → (b : Bool) → EachOnce (cond b ds (d ∷ closed name ds))
    go later true = once.1
    go later false = (closed_all (λ (e : Document). bytes_eq e.name d.name ≡ false) name ds once.0, later)

pub closed_follows : (text : List ℕ → Option (List ℕ)) (name : List ℕ) (docs new : List Document) → new ≡ closed name docs → Follows text docs → Follows text new
closed_follows text name docs new is now = rw is (record { once = closed_once name docs now.once; each = closed_all (IsInStep text) name docs now.each })

-- Documents whose texts the files are given again

some_is : {A : Type 0} (x y : A) → Some x ≡ Some y → x ≡ y
some_is x y e = cc

all_at : (P : Document → Type 0) (docs : List Document) (n : ℕ) (d : Document) → AllByRecursion P docs → slice_get docs n ≡ Some d → P d
all_at P [] n d all at = absurd (cc)
all_at P (x ∷ ds) zero d all at = subst P (some_is x d at) all.0
all_at P (x ∷ ds) (suc n) d all at = all_at P ds n d all.1 at

once_place : (docs : List Document) (n : ℕ) (d : Document) → EachOnce docs → slice_get docs n ≡ Some d → place d.name docs ≡ Some n
once_place [] n d once at = absurd (cc)
once_place (x ∷ ds) zero d once at =
    let same : bytes_eq x.name d.name ≡ true = (bytes_eq-Decides x.name d.name).1 (ap (λ (e : Document). e.name) (some_is x d at)) in
    place_step d.name x ds ∙ ap (λ b. cond b (Some 0) (option_map suc (place d.name ds))) same
once_place (x ∷ ds) (suc n) d once at =
    let apart : bytes_eq x.name d.name ≡ false = nat_list_eq_equiv.symm x.name d.name ∙ all_at (λ (e : Document). bytes_eq e.name x.name ≡ false) ds n d once.0 at in
    place_step d.name x ds ∙ ap (λ b. cond b (Some 0) (option_map suc (place d.name ds))) apart ∙ ap (option_map suc) (once_place ds n d once.1 at)

pub get_within : (docs : List Document) (n : ℕ) (d : Document) → slice_get docs n ≡ Some d → n < length docs
get_within [] n d at = absurd (cc)
get_within (x ∷ ds) zero d at = omega arith
get_within (x ∷ ds) (suc n) d at = let later = get_within ds n d at in omega (arith, later)

-- nothing is given
pub given_same : (docs : List Document) → AreGiven docs docs
given_same [] = tt
given_same (d ∷ ds) = (inl refl, given_same ds)

is_given_twice : (d e f : Document) → IsGiven d e → IsGiven e f → IsGiven d f
is_given_twice d e f (inl p) (inl q) = inl (q ∙ p)
is_given_twice d e f (inl p) (inr q) = inr (q ∙ ap (λ (x : Document). record x { in_step = true }) p)
is_given_twice d e f (inr p) (inl q) = inr (q ∙ p)
is_given_twice d e f (inr p) (inr q) = inr (q ∙ ap (λ (x : Document). record x { in_step = true }) p)

-- one after another is given
pub given_twice : (xs ys zs : List Document) → AreGiven xs ys → AreGiven ys zs → AreGiven xs zs
given_twice [] [] [] p q = tt
given_twice [] [] (z ∷ zs) p q = absurd q
given_twice [] (y ∷ ys) zs p q = absurd p
given_twice (x ∷ xs) [] zs p q = absurd p
given_twice (x ∷ xs) (y ∷ ys) [] p q = absurd q
given_twice (x ∷ xs) (y ∷ ys) (z ∷ zs) p q = (is_given_twice x y z p.0 q.0, given_twice xs ys zs p.1 q.1)

-- one of them is given
pub given_set : (docs : List Document) (n : ℕ) (d : Document) → slice_get docs n ≡ Some d → AreGiven docs (slice_set docs n (record d { in_step = true }))
given_set [] n d at = absurd (cc)
given_set (x ∷ ds) zero d at = (inr (ap (λ (y : Document). record y { in_step = true }) (sym (some_is x d at))), given_same ds)
given_set (x ∷ ds) (suc n) d at = (inl refl, given_set ds n d at)

pub follows_given : (text text' : List ℕ → Option (List ℕ)) (docs : List Document) (n : ℕ) (d : Document) → slice_get docs n ≡ Some d →
    ((other : List ℕ) → bytes_eq other d.name ≡ false → text' other ≡ text other) → text' d.name ≡ Some d.text → Follows text docs → Follows text' (slice_set docs n (record d { in_step = true }))
follows_given text text' docs n d at keep has now = follows_set text text' d.name (record d { in_step = true }) docs n (once_place docs n d now.once at) refl keep (λ t. has) now

-- a document that isn't in step
pub behind_at : (docs : List Document) (n : ℕ) (d : Document) → slice_get docs n ≡ Some d → d.in_step ≡ false → any_behind docs ≡ true
behind_at [] n d at out = absurd (cc)
behind_at (x ∷ ds) zero d at out = rw (ap (λ (e : Document). e.in_step) (some_is x d at) ∙ out) refl
behind_at (x ∷ ds) (suc n) d at out = go x.in_step (behind_at ds n d at out)
  where
    go : (b : Bool) → any_behind ds ≡ true → (not b || any_behind ds) ≡ true
    go true later = later
    go false later = refl

-- \citation: the code's steps through its parts, and what was cited.
use Rattle.std.specs.Prelude.{◌||◌, ◌&&◌, not, codes, filter, fold}
use Rattle.std.specs.List.{before_first}
use Rattle.std.specs.Option.{is_some, option_or, option_map}
use Rattle.std.specs.Str.{bytes_eq}
use Rattle.std.proofs.lemmas.Bool.{eqb-true, and_parts, or_parts}
use Rattle.std.proofs.lemmas.List.Elements.{filter-append}
use Rattle.std.proofs.lemmas.List.Sums.{fold-append, take_while-cons}
use Rattle.std.proofs.Common.{◌≡◌, ℕ, ◌+◌, Bool, true, false, cond, nat_eq, nat_lt, List, [], ◌∷◌, ◌++◌, length, append_assoc, append-nil, Option, Some, None, refl, sym, ap, ap₂, ◌∙◌, arith}
use Rattle.bt_text.specs.CaseFolding.{folded, is_same_folded}
use Rattle.bt_text.specs.NameList.{same_name, is_among}
use Rattle.bt_bib.specs.declared.aux_line.Command.TheVariants.{Citation}
use Rattle.bt_bib.specs.declared.aux_argument.AuxFault.{AuxFault}
use Rattle.bt_job.specs.declared.files.File.{File}
use Rattle.bt_job.specs.declared.progress.Progress.{Progress}
use Rattle.bt_job.specs.declared.progress.Outcome.{Outcome}
use Rattle.bt_job.specs.declared.progress.Outcome.TheVariants.{Taken, Wrong}
use Rattle.bt_job.specs.FileNames.{with_name}
use Rattle.bt_job.specs.Faults.{LineFault, SecondStar, OtherSpelling, IllEnded, said, key_fault, right_parts}
use Rattle.bt_job.specs.inner.Cases.{spelling_fault}
use Rattle.bt_job.specs.Lines.{argument_fault}
use Rattle.bt_job.specs.Citations.{is_star, keys_of, star_of}
use Rattle.bt_job.specs.inner.LineEffects.{cited_all, cited_key, cited_part, going_on, parts_taken}
use Rattle.bt_job.proofs.NameLemmas.{is_among-append, same_bytes, name_itself}
use Rattle.bt_job.proofs.PartLemmas.{outcome_of, end_outcome, right_wrong, right_more, first_wrong, first_more}

-- No key is `*` without regard to case.

star_byte : (a b : Bool) (c : ℕ) → nat_lt c 65 ≡ a → nat_lt c 91 ≡ b → nat_eq 42 (cond a c (cond b (c + 32) c)) ≡ true → 42 ≡ c
star_byte true b c low high is = eqb-true 42 c is
star_byte false true c low high is = let far : 42 ≡ c + 32 = eqb-true 42 (c + 32) is in absurd (grind (arith, low, far))
star_byte false false c low high is = eqb-true 42 c is

no_and : (a : Bool) → (a && false) ≡ true → false ≡ true
no_and true h = h
no_and false h = h

folded_star : (key : List ℕ) → is_same_folded (codes "*") key ≡ true → is_star key ≡ true
folded_star [] h = h
folded_star (c ∷ []) h =
    let is : 42 ≡ c = star_byte (nat_lt c 65) (nat_lt c 91) c refl refl (and_parts _ true h).0 in
    ap (λ n. nat_eq n 42 && true) (sym is)
folded_star (c ∷ d ∷ ds) h = let wrong : false ≡ true = no_and _ h in cc

not_folded_star : (key : List ℕ) → is_star key ≡ false → is_same_folded (codes "*") key ≡ false
not_folded_star key apart = go (is_same_folded (codes "*") key) refl
  where
    go : (b : Bool) → is_same_folded (codes "*") key ≡ b → b ≡ false
    go true h = let wrong : is_star key ≡ true = folded_star key h in cc
    go false h = refl

-- The key that was cited first among those of one folding

found_by : (b s : Bool) (key c : List ℕ) (cs : List (List ℕ)) → bytes_eq c (codes "*") ≡ s → is_star key ≡ false → is_same_folded c key ≡ b
    → same_name key (cond (not s) (c ∷ cs) cs) ≡ cond b (Some c) (same_name key cs)
found_by b true key c cs star apart same =
    let is : c ≡ codes "*" = same_bytes c (codes "*") star in
    let other : b ≡ false = sym same ∙ ap (λ x. is_same_folded x key) is ∙ not_folded_star key apart in
    rw other refl
found_by b false key c cs star apart same = rw same refl

found_past_stars : (key : List ℕ) (parts : List (List ℕ)) → is_star key ≡ false → same_name key (filter (λ part. not (is_star part)) parts) ≡ same_name key parts
found_past_stars key [] apart = refl
found_past_stars key (c ∷ cs) apart =
    found_by (is_same_folded c key) (is_star c) key c (filter (λ part. not (is_star part)) cs) refl apart refl
    ∙ ap (cond (is_same_folded c key) (Some c)) (found_past_stars key cs apart)

-- either of two, and what comes after
or_pick : (b : Bool) (k : List ℕ) (o p : Option (List ℕ)) → option_or (cond b (Some k) o) p ≡ cond b (Some k) (option_or o p)
or_pick true k o p = refl
or_pick false k o p = refl

or_none : (o : Option (List ℕ)) → option_or o None ≡ o
or_none None = refl
or_none (Some k) = refl

or_assoc : (o p q : Option (List ℕ)) → option_or (option_or o p) q ≡ option_or o (option_or p q)
or_assoc None p q = refl
or_assoc (Some k) p q = refl

same_name-append : (key name : List ℕ) (names : List (List ℕ)) → same_name key (names ++ name ∷ []) ≡ option_or (same_name key names) (cond (is_same_folded name key) (Some name) None)
same_name-append key name [] = refl
same_name-append key name (n ∷ ns) =
    ap (cond (is_same_folded n key) (Some n)) (same_name-append key name ns)
    ∙ sym (or_pick (is_same_folded n key) n (same_name key ns) (cond (is_same_folded name key) (Some name) None))

-- a name that is among some is found there
found_among : (a b : Bool) (key name n : List ℕ) (ns : List (List ℕ)) → is_same_folded name key ≡ true → bytes_eq n name ≡ a → (a || is_among ns name) ≡ true → is_same_folded n key ≡ b
    → (is_among ns name ≡ true → is_some (same_name key ns) ≡ true) → is_some (cond b (Some n) (same_name key ns)) ≡ true
found_among a true key name n ns same is among here later = refl
found_among true false key name n ns same is among here later =
    let wrong : is_same_folded name key ≡ false = ap (λ x. is_same_folded x key) (sym (same_bytes n name is)) ∙ here in cc
found_among false false key name n ns same is among here later = later among

among_found : (key name : List ℕ) (names : List (List ℕ)) → is_same_folded name key ≡ true → is_among names name ≡ true → is_some (same_name key names) ≡ true
among_found key name [] same among = among
among_found key name (n ∷ ns) same among = found_among (bytes_eq n name) (is_same_folded n key) key name n ns same refl among refl (among_found key name ns same)

some_or : (o p q : Option (List ℕ)) → is_some o ≡ true → option_or o p ≡ option_or o q
some_or None p q h = cc
some_or (Some k) p q h = refl

-- one more name, which is among them or not
found_with : (a s : Bool) (key name : List ℕ) (names : List (List ℕ)) (later : Option (List ℕ)) → is_among names name ≡ a → is_same_folded name key ≡ s
    → option_or (same_name key (cond a names (names ++ name ∷ []))) later ≡ option_or (same_name key names) (cond s (Some name) later)
found_with true true key name names later among same = some_or (same_name key names) later (Some name) (among_found key name names same among)
found_with true false key name names later among same = refl
found_with false s key name names later among same =
    ap (λ o. option_or o later) (same_name-append key name names)
    ∙ or_assoc (same_name key names) (cond (is_same_folded name key) (Some name) None) later
    ∙ ap (option_or (same_name key names)) (or_pick (is_same_folded name key) name None later ∙ ap (λ b. cond b (Some name) later) same)

found_once : (key : List ℕ) (seen names : List (List ℕ)) → same_name key (fold with_name seen names) ≡ option_or (same_name key seen) (same_name key names)
found_once key seen [] = sym (or_none (same_name key seen))
found_once key seen (n ∷ ns) =
    found_once key (with_name seen n) ns
    ∙ found_with (is_among seen n) (is_same_folded n key) key n seen (same_name key ns) refl refl

-- the first spelling of a key is the same among the keys and among all that was cited
pub found_among_keys : (key : List ℕ) (parts : List (List ℕ)) → is_star key ≡ false → same_name key (keys_of parts) ≡ same_name key parts
found_among_keys key parts apart = found_once key [] (filter (λ part. not (is_star part)) parts) ∙ found_past_stars key parts apart

-- One more part

keys_by : (s : Bool) (parts : List (List ℕ)) (part : List ℕ) → is_star part ≡ s → keys_of (parts ++ part ∷ []) ≡ cond s (keys_of parts) (with_name (keys_of parts) part)
keys_by s parts part is =
    ap (fold with_name []) (filter-append (λ p. not (is_star p)) parts (part ∷ []))
    ∙ fold-append with_name [] (filter (λ p. not (is_star p)) parts) (filter (λ p. not (is_star p)) (part ∷ []))
    ∙ go s is
  where
    go : (b : Bool) → is_star part ≡ b → fold with_name (keys_of parts) (cond (not (is_star part)) (part ∷ []) []) ≡ cond b (keys_of parts) (with_name (keys_of parts) part)
    go true e = ap (λ x. fold with_name (keys_of parts) (cond (not x) (part ∷ []) [])) e
    go false e = ap (λ x. fold with_name (keys_of parts) (cond (not x) (part ∷ []) [])) e

pub keys_key : (parts : List (List ℕ)) (part : List ℕ) → is_star part ≡ false → keys_of (parts ++ part ∷ []) ≡ with_name (keys_of parts) part
keys_key parts part is = keys_by false parts part is

pub keys_star : (parts : List (List ℕ)) (part : List ℕ) → is_star part ≡ true → keys_of (parts ++ part ∷ []) ≡ keys_of parts
keys_star parts part is = keys_by true parts part is

-- what comes before the first `*`
before_cons : (part : List ℕ) (parts : List (List ℕ)) → before_first is_star (part ∷ parts) ≡ cond (is_star part) [] (part ∷ before_first is_star parts)
before_cons part parts = take_while-cons (λ p. not (is_star p)) part parts ∙ go (is_star part)
  where
    go : (b : Bool) → cond (not b) (part ∷ before_first is_star parts) [] ≡ cond b [] (part ∷ before_first is_star parts)
    go true = refl
    go false = refl

before_more : (parts : List (List ℕ)) (part : List ℕ) → is_among parts (codes "*") ≡ true → before_first is_star (parts ++ part ∷ []) ≡ before_first is_star parts
before_more [] part h = cc
before_more (p ∷ ps) part h = before_cons p (ps ++ part ∷ []) ∙ go (is_star p) h (before_more ps part) ∙ sym (before_cons p ps)
  where
    go : (b : Bool) → (b || is_among ps (codes "*")) ≡ true → (is_among ps (codes "*") ≡ true → before_first is_star (ps ++ part ∷ []) ≡ before_first is_star ps)
        → cond b [] (p ∷ before_first is_star (ps ++ part ∷ [])) ≡ cond b [] (p ∷ before_first is_star ps)
    go true e later = refl
    go false e later = ap (λ qs. p ∷ qs) (later e)

before_star : (parts : List (List ℕ)) (part : List ℕ) → is_among parts (codes "*") ≡ false → is_star part ≡ true → before_first is_star (parts ++ part ∷ []) ≡ parts
before_star [] part h star = before_cons part [] ∙ ap (λ b. cond b [] (part ∷ [])) star
before_star (p ∷ ps) part h star =
    before_cons p (ps ++ part ∷ [])
    ∙ ap (λ b. cond b [] (p ∷ before_first is_star (ps ++ part ∷ []))) (or_parts (is_star p) (is_among ps (codes "*")) h).0
    ∙ ap (λ qs. p ∷ qs) (before_star ps part (or_parts (is_star p) (is_among ps (codes "*")) h).1 star)

pub star_key : (parts : List (List ℕ)) (part : List ℕ) → is_star part ≡ false → star_of (parts ++ part ∷ []) ≡ star_of parts
star_key parts part is = go (is_among parts (codes "*")) refl
  where
    go : (b : Bool) → is_among parts (codes "*") ≡ b → star_of (parts ++ part ∷ []) ≡ star_of parts
    go true e =
        ap₂ (λ a ps. cond a (Some (length (keys_of ps))) None) (is_among-append parts part (codes "*") ∙ ap₂ (λ a b. a || b) e is ∙ sym e) (before_more parts part e)
    go false e =
        ap (λ a. cond a (Some (length (keys_of (before_first is_star (parts ++ part ∷ []))))) None) (is_among-append parts part (codes "*") ∙ ap₂ (λ a b. a || b) e is)
        ∙ sym (ap (λ a. cond a (Some (length (keys_of (before_first is_star parts)))) None) e)

pub star_star : (parts : List (List ℕ)) (part : List ℕ) → is_star part ≡ true → is_among parts (codes "*") ≡ false → star_of (parts ++ part ∷ []) ≡ Some (length (keys_of parts))
star_star parts part is e =
    ap₂ (λ a ps. cond a (Some (length (keys_of ps))) None) (is_among-append parts part (codes "*") ∙ ap₂ (λ a b. a || b) e is) (before_star parts part e is)

-- The code's step at a part

-- what was cited now, and what is wrong
abbrev pub cited_to : Progress → List (List ℕ) → Option LineFault → Progress × Outcome
cited_to r parts o = (record r { keys = keys_of parts; star = star_of parts }, outcome_of o)

-- the same, given what is wrong with the part
abbrev IsCited : Progress → List (List ℕ) → List ℕ → Option LineFault → Type 0
IsCited r parts part None = cited_part part r ≡ cited_to r (parts ++ part ∷ []) None
IsCited r parts part (Some f) = cited_part part r ≡ cited_to r parts (Some f)

-- nothing more is known
cited_as : (r : Progress) (parts : List (List ℕ)) → r.keys ≡ keys_of parts → r.star ≡ star_of parts → r ≡ record r { keys = keys_of parts; star = star_of parts }
cited_as r parts keys star = ap₂ (λ k s. record r { keys = k; star = s }) keys star

cited_by : (part : List ℕ) (r : Progress) (b : Bool) → is_star part ≡ b → cited_part part r ≡ cond b (cited_all r.star r) (cited_key part (same_name part r.keys) r)
unfolding cited_part
cited_by part r b is = ap (λ x. cond x (cited_all r.star r) (cited_key part (same_name part r.keys) r)) is

star_cited : (parts : List (List ℕ)) (part : List ℕ) (r : Progress) (a : Bool) → r.keys ≡ keys_of parts → r.star ≡ star_of parts → is_star part ≡ true → is_among parts (codes "*") ≡ a
    → IsCited r parts part (cond a (Some SecondStar) None)
star_cited parts part r true keys star is among =
    cited_by part r true is
    ∙ ap (λ s. cited_all s r) (star ∙ ap (λ a. cond a (Some (length (keys_of (before_first is_star parts)))) None) among)
    ∙ ap (λ q. (q, outcome_of (Some SecondStar))) (cited_as r parts keys star)
star_cited parts part r false keys star is among =
    cited_by part r true is
    ∙ ap (λ s. cited_all s r) (star ∙ ap (λ a. cond a (Some (length (keys_of (before_first is_star parts)))) None) among)
    ∙ ap₂ (λ k s. (record r { keys = k; star = s }, Taken)) (keys ∙ sym (keys_star parts part is)) (ap (λ k. Some (length k)) keys ∙ sym (star_star parts part is among))

-- a name is not among names that all differ from it
not_found : (name : List ℕ) (names : List (List ℕ)) → same_name name names ≡ None → is_among names name ≡ false
not_found name names none = go (is_among names name) refl
  where
    go : (b : Bool) → is_among names name ≡ b → b ≡ false
    go true e = let wrong : is_some (same_name name names) ≡ true = among_found name name names (name_itself (folded name)) e in let nothing : is_some (same_name name names) ≡ false = ap is_some none in cc
    go false e = refl

-- the one that is found is among them
found_is : (b : Bool) (name key n : List ℕ) (ns : List (List ℕ)) → cond b (Some n) (same_name key ns) ≡ Some name → (same_name key ns ≡ Some name → is_among ns name ≡ true) → is_among (n ∷ ns) name ≡ true
found_is true name key n ns is later = let one : n ≡ name = ap (λ o. elim o as (λ x. List ℕ) [ None ↦ n | Some k ↦ k ]) is in rw (one, name_itself name) refl
found_is false name key n ns is later = go (bytes_eq n name) (is_among ns name) (later is)
  where
    go : (a b : Bool) → b ≡ true → (a || b) ≡ true
    go true b e = refl
    go false b e = e

pub found_there : (name key : List ℕ) (names : List (List ℕ)) → same_name key names ≡ Some name → is_among names name ≡ true
found_there name key [] is = cc
found_there name key (n ∷ ns) is = found_is (is_same_folded n key) name key n ns is (found_there name key ns)

key_cited : (parts : List (List ℕ)) (part : List ℕ) (r : Progress) (o : Option (List ℕ)) → r.keys ≡ keys_of parts → r.star ≡ star_of parts → is_star part ≡ false → same_name part parts ≡ o
    → IsCited r parts part (spelling_fault part o)
key_cited parts part r None keys star is found =
    let none : same_name part r.keys ≡ None = ap (same_name part) keys ∙ found_among_keys part parts is ∙ found in
    let new : is_among r.keys part ≡ false = not_found part r.keys none in
    cited_by part r false is
    ∙ ap (λ o. cited_key part o r) none
    ∙ ap₂ (λ k s. (record r { keys = k; star = s }, Taken))
    (sym (ap (λ a. cond a r.keys (r.keys ++ part ∷ [])) new) ∙ ap (λ k. with_name k part) keys ∙ sym (keys_key parts part is))
    (star ∙ sym (star_key parts part is))
key_cited parts part r (Some old) keys star is found = go (bytes_eq old part) refl
  where
    some : same_name part r.keys ≡ Some old
    some = ap (same_name part) keys ∙ found_among_keys part parts is ∙ found

    go : (b : Bool) → bytes_eq old part ≡ b → IsCited r parts part (cond b None (Some (OtherSpelling part old)))
    go true e =
        let one : old ≡ part = same_bytes old part e in
        let known : is_among r.keys part ≡ true = found_there part part r.keys (some ∙ ap Some one) in
        cited_by part r false is
        ∙ ap (λ o. cited_key part o r) some
        ∙ ap (λ b. cond b (r, Taken) (r, Wrong (said (OtherSpelling part old)))) e
        ∙ ap₂ (λ k s. (record r { keys = k; star = s }, Taken))
        (sym (ap (λ a. cond a r.keys (r.keys ++ part ∷ [])) known) ∙ ap (λ k. with_name k part) keys ∙ sym (keys_key parts part is))
        (star ∙ sym (star_key parts part is))
    go false e =
        cited_by part r false is
        ∙ ap (λ o. cited_key part o r) some
        ∙ ap (λ b. cond b (r, Taken) (r, Wrong (said (OtherSpelling part old)))) e
        ∙ ap (λ q. (q, outcome_of (Some (OtherSpelling part old)))) (cited_as r parts keys star)

part_cited : (parts : List (List ℕ)) (part : List ℕ) (r : Progress) → r.keys ≡ keys_of parts → r.star ≡ star_of parts → IsCited r parts part (key_fault parts part)
part_cited parts part r keys star = go (is_star part) refl
  where
    go : (b : Bool) → is_star part ≡ b → IsCited r parts part (cond b (cond (is_among parts part) (Some SecondStar) None) (spelling_fault part (same_name part parts)))
    go true e =
        star_cited parts part r (is_among parts part) keys star e (ap (is_among parts) (sym (same_bytes part (codes "*") e)))
    go false e = key_cited parts part r (same_name part parts) keys star e refl

-- All parts

more_cited : (files : List File) (parts : List (List ℕ)) (part : List ℕ) (later : List (List ℕ)) (end : Option AuxFault) (r : Progress) (o : Option LineFault)
    → key_fault parts part ≡ o → IsCited r parts part o
    → ((q : Progress) → q.keys ≡ keys_of (parts ++ part ∷ []) → q.star ≡ star_of (parts ++ part ∷ [])
    → parts_taken files Citation end later q ≡ cited_to q (parts ++ part ∷ [] ++ right_parts key_fault (parts ++ part ∷ []) later) (argument_fault key_fault (parts ++ part ∷ []) later end))
    → parts_taken files Citation end (part ∷ later) r ≡ cited_to r (parts ++ right_parts key_fault parts (part ∷ later)) (argument_fault key_fault parts (part ∷ later) end)
more_cited files parts part later end r None fault here after =
    ap (going_on (parts_taken files Citation end later)) here
    ∙ after (record r { keys = keys_of (parts ++ part ∷ []); star = star_of (parts ++ part ∷ []) }) refl refl
    ∙ ap₂ (cited_to r)
    (append_assoc parts (part ∷ []) (right_parts key_fault (parts ++ part ∷ []) later) ∙ sym (ap (λ ps. parts ++ ps) (right_more key_fault parts part later fault)))
    (sym (ap (λ o. option_or o (option_map IllEnded end)) (first_more key_fault parts part later fault)))
more_cited files parts part later end r (Some f) fault here after =
    ap (going_on (parts_taken files Citation end later)) here
    ∙ ap₂ (cited_to r)
    (sym (ap (λ ps. parts ++ ps) (right_wrong key_fault parts part later f fault) ∙ append-nil parts))
    (sym (ap (λ o. option_or o (option_map IllEnded end)) (first_wrong key_fault parts part later f fault)))

-- the code's steps through the parts of a \citation, after what was cited before
pub all_cited : (files : List File) (end : Option AuxFault) (later parts : List (List ℕ)) (r : Progress) → r.keys ≡ keys_of parts → r.star ≡ star_of parts
    → parts_taken files Citation end later r ≡ cited_to r (parts ++ right_parts key_fault parts later) (argument_fault key_fault parts later end)
all_cited files end [] parts r keys star =
    ap₂ (λ q o. (q, o)) (cited_as r parts keys star) (end_outcome end)
    ∙ ap (λ ps. cited_to r ps (option_map IllEnded end)) (sym (append-nil parts))
all_cited files end (part ∷ later) parts r keys star =
    more_cited files parts part later end r (key_fault parts part) refl (part_cited parts part r keys star) (λ q. all_cited files end later (parts ++ part ∷ []) q)

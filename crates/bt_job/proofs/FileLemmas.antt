-- \bibdata, \bibstyle and \@input: the code's steps through the names of files.
use Rattle.std.specs.Prelude.{◌||◌, ◌&&◌, not, eqb, codes, fold}
use Rattle.std.specs.List.{ends_with}
use Rattle.std.specs.Option.{is_some, option_or, option_map}
use Rattle.std.specs.Str.{bytes_eq}
use Rattle.std.proofs.Common.{◌≡◌, ℕ, Bool, true, false, cond, List, [], ◌∷◌, ◌++◌, append_assoc, append-nil, Option, Some, None, refl, sym, ap, ap₂, ◌∙◌}
use Rattle.bt_log.specs.declared.message.Rank.TheVariants.{FileLine}
use Rattle.bt_log.specs.declared.message.FileKind.TheVariants.{Aux, Bib, Bst}
use Rattle.bt_log.specs.declared.message.FileNote.{FileNote}
use Rattle.bt_log.specs.declared.message.FileNote.TheVariants.{StyleFile, NotOpened, DatabaseTwice, AuxTwice, WrongExtension, BadFileName}
use Rattle.bt_log.specs.Message.{of_file}
use Rattle.bt_bib.specs.declared.aux_line.Command.{Command}
use Rattle.bt_bib.specs.declared.aux_line.Command.TheVariants.{Database, Style, Nested}
use Rattle.bt_bib.specs.declared.aux_argument.AuxFault.{AuxFault}
use Rattle.bt_job.specs.declared.files.File.{File}
use Rattle.bt_job.specs.declared.progress.Progress.{Progress}
use Rattle.bt_job.specs.declared.progress.Outcome.{Outcome}
use Rattle.bt_job.specs.declared.progress.Outcome.TheVariants.{Taken, Wrong, Opens}
use Rattle.bt_text.specs.NameList.{is_among}
use Rattle.bt_job.specs.FileNames.{is_aux, is_file_name, text_of, with_ending, with_name}
use Rattle.bt_job.specs.Faults.{LineFault, WrongFile, IllEnded, said, database_fault, style_fault, input_fault, right_parts}
use Rattle.bt_job.specs.Lines.{database_names, argument_fault}
use Rattle.bt_job.specs.Citations.{missed}
use Rattle.bt_job.specs.inner.FileNames.{has_ending, met_before, name_fault}
use Rattle.bt_job.specs.inner.LineEffects.{told, meeting, looked_up, unless_misnamed, named, going_on, parts_taken}
use Rattle.bt_job.proofs.NameLemmas.{or_false, is_among-append, same_bytes, bytes_differ}
use Rattle.bt_job.proofs.PartLemmas.{outcome_of, end_outcome, right_wrong, right_more, first_wrong, first_more}

-- a name that ends in `.bib`
abbrev pub is_base : List ℕ → Bool
is_base name = ends_with eqb name (codes ".bib")

-- A name, given the tests that it passes

abbrev fault_by : Command → Bool → Bool → Bool → Option FileNote
fault_by c e f a = cond (not e) (Some WrongExtension) (cond (not f) (Some BadFileName) (cond a (met_before c) None))

fault_is : (c : Command) (met : List (List ℕ)) (name : List ℕ) (e f a : Bool) → has_ending c name ≡ e → is_file_name name ≡ f → is_among met name ≡ a → name_fault c met name ≡ fault_by c e f a
unfolding name_fault
fault_is c met name e f a is_e is_f is_a =
    ap (λ x. fault_by c x (is_file_name name) (is_among met name)) is_e
    ∙ ap (λ x. fault_by c e x (is_among met name)) is_f
    ∙ ap (λ x. fault_by c e f x) is_a

named_is : (files : List File) (c : Command) (name : List ℕ) (r : Progress) (o : Option FileNote) → name_fault c r.met name ≡ o → named files c name r ≡ unless_misnamed files c name o r
unfolding named
named_is files c name r o is = ap (λ x. unless_misnamed files c name x r) is

well_is : (files : List File) (c : Command) (name : List ℕ) (r : Progress) (t : Option (List ℕ)) → text_of files name ≡ t → unless_misnamed files c name None r ≡ looked_up c name t (meeting c name r)
well_is files c name r t is = ap (λ x. looked_up c name x (meeting c name r)) is

-- \bibdata

-- the state after a \bibdata with these names: more databases, a name that was looked up, names that were met
abbrev pub based_to : Progress → List (List ℕ) → Option LineFault → List (List ℕ) → Progress × Outcome
based_to r names o met = (record r { databases = r.databases ++ names; wanted = fold with_name r.wanted (missed o); met = met }, outcome_of o)

pub record Based (r : Progress) (names : List (List ℕ)) (o : Option LineFault) (x : Progress × Outcome) : Type 0 where
  pub met : List (List ℕ)
  pub is : x ≡ based_to r names o met
  pub keeps : (n : List ℕ) → is_base n ≡ false → is_among met n ≡ is_among r.met n

-- one more name, of a database
base_keeps : (met : List (List ℕ)) (name n : List ℕ) → is_base name ≡ true → is_base n ≡ false → is_among (met ++ name ∷ []) n ≡ is_among met n
base_keeps met name n h k = is_among-append met name n ∙ ap (λ b. is_among met n || b) (bytes_differ is_base name n h k) ∙ or_false (is_among met n)

abbrev IsBased : List File → Progress → List ℕ → Option LineFault → Type 0
IsBased files r name None = named files Database name r ≡ (record r { databases = r.databases ++ name ∷ []; met = r.met ++ name ∷ [] }, Taken)
IsBased files r name (Some f) = Based r [] (Some f) (named files Database name r)

-- nothing more
no_base : (r : Progress) (f : LineFault) (met : List (List ℕ)) → (record r { wanted = fold with_name r.wanted (missed (Some f)); met = met }, outcome_of (Some f)) ≡ based_to r [] (Some f) met
no_base r f met = ap (λ d. (record r { databases = d; wanted = fold with_name r.wanted (missed (Some f)); met = met }, outcome_of (Some f))) (sym (append-nil r.databases))

base_by : (files : List File) (r : Progress) (name : List ℕ) (f a : Bool) (t : Option (List ℕ)) → is_base name ≡ true → is_file_name name ≡ f → is_among r.met name ≡ a → text_of files name ≡ t
    → IsBased files r name (cond (not f) (Some (WrongFile BadFileName name)) (cond a (Some (WrongFile DatabaseTwice name)) (cond (not (is_some t)) (Some (WrongFile (NotOpened Bib) name)) None)))
base_by files r name false a t ends is_f is_a is_t = record {
  met = r.met;
  is = named_is files Database name r _ (fault_is Database r.met name true false a refl is_f is_a) ∙ no_base r (WrongFile BadFileName name) r.met;
  keeps = λ n h. refl;
}
base_by files r name true true t ends is_f is_a is_t = record {
  met = r.met;
  is = named_is files Database name r _ (fault_is Database r.met name true true true refl is_f is_a) ∙ no_base r (WrongFile DatabaseTwice name) r.met;
  keeps = λ n h. refl;
}
base_by files r name true false None ends is_f is_a is_t = record {
  met = r.met ++ name ∷ [];
  is = named_is files Database name r _ (fault_is Database r.met name true true false refl is_f is_a) ∙ well_is files Database name r None is_t
      ∙ no_base r (WrongFile (NotOpened Bib) name) (r.met ++ name ∷ []);
  keeps = λ n h. base_keeps r.met name n ends h;
}
base_by files r name true false (Some text) ends is_f is_a is_t =
    named_is files Database name r _ (fault_is Database r.met name true true false refl is_f is_a) ∙ well_is files Database name r (Some text) is_t

-- the names that were met are those in front, as far as databases go
abbrev pub MetAs : List (List ℕ) → List (List ℕ) → Type 0
MetAs met before = (n : List ℕ) → is_base n ≡ true → is_among met n ≡ is_among before n

met_more : (met before : List (List ℕ)) (name : List ℕ) → MetAs met before → MetAs (met ++ name ∷ []) (before ++ name ∷ [])
met_more met before name same n h = is_among-append met name n ∙ ap (λ b. b || bytes_eq name n) (same n h) ∙ sym (is_among-append before name n)

more_based : (files : List File) (before : List (List ℕ)) (part name : List ℕ) (later : List (List ℕ)) (end : Option AuxFault) (r : Progress) (o : Option LineFault)
    → with_ending (codes ".bib") part ≡ name → is_base name ≡ true → database_fault files before name ≡ o → IsBased files r name o
    → ((q : Progress) → q.met ≡ r.met ++ name ∷ [] → Based q (right_parts (database_fault files) (before ++ name ∷ []) (database_names later)) (argument_fault (database_fault files) (before ++ name ∷ []) (database_names later) end) (parts_taken files Database end later q))
    → Based r (right_parts (database_fault files) before (name ∷ database_names later)) (argument_fault (database_fault files) before (name ∷ database_names later) end) (parts_taken files Database end (part ∷ later) r)
more_based files before part name later end r None named_so ends fault here after =
    let b = after (record r { databases = r.databases ++ name ∷ []; met = r.met ++ name ∷ [] }) refl in
    record {
      met = b.met;
      is = ap (λ n. going_on (parts_taken files Database end later) (named files Database n r)) named_so
          ∙ ap (going_on (parts_taken files Database end later)) here
          ∙ b.is
          ∙ ap (λ d. (record r { databases = d; wanted = fold with_name r.wanted (missed (argument_fault (database_fault files) (before ++ name ∷ []) (database_names later) end)); met = b.met }, outcome_of (argument_fault (database_fault files) (before ++ name ∷ []) (database_names later) end)))
          (append_assoc r.databases (name ∷ []) (right_parts (database_fault files) (before ++ name ∷ []) (database_names later)))
          ∙ ap₂ (λ ns o. based_to r ns o b.met)
          (sym (right_more (database_fault files) before name (database_names later) fault))
          (sym (ap (λ o. option_or o (option_map IllEnded end)) (first_more (database_fault files) before name (database_names later) fault)));
      keeps = λ n h. b.keeps n h ∙ base_keeps r.met name n ends h;
    }
more_based files before part name later end r (Some f) named_so ends fault here after =
    record {
      met = here.met;
      is = ap (λ n. going_on (parts_taken files Database end later) (named files Database n r)) named_so
          ∙ ap (going_on (parts_taken files Database end later)) here.is
          ∙ ap₂ (λ ns o. based_to r ns o here.met)
          (sym (right_wrong (database_fault files) before name (database_names later) f fault))
          (sym (ap (λ o. option_or o (option_map IllEnded end)) (first_wrong (database_fault files) before name (database_names later) f fault)));
      keeps = here.keeps;
    }

-- nothing but the end is left
end_based : (r : Progress) (end : Option AuxFault) → (r, outcome_of (option_map IllEnded end)) ≡ based_to r [] (option_map IllEnded end) r.met
end_based r None = ap (λ d. (record r { databases = d }, Taken)) (sym (append-nil r.databases))
end_based r (Some f) = ap (λ d. (record r { databases = d }, Wrong (said (IllEnded f)))) (sym (append-nil r.databases))

-- the code's steps through the parts of a \bibdata
pub all_based : (files : List File) (end : Option AuxFault) (later before : List (List ℕ)) (r : Progress) → ((part : List ℕ) → is_base (with_ending (codes ".bib") part) ≡ true) → MetAs r.met before
    → Based r (right_parts (database_fault files) before (database_names later)) (argument_fault (database_fault files) before (database_names later) end) (parts_taken files Database end later r)
all_based files end [] before r ends same = record {
  met = r.met;
  is = ap (λ o. (r, o)) (end_outcome end) ∙ end_based r end;
  keeps = λ n h. refl;
}
all_based files end (part ∷ later) before r ends same =
    let name = with_ending (codes ".bib") part in
    more_based files before part name later end r (database_fault files before name) refl (ends part) refl
    (base_by files r name (is_file_name name) (is_among before name) (text_of files name) (ends part) refl (same name (ends part)) refl)
    (λ q met. all_based files end later (before ++ name ∷ []) q ends (λ n h. ap (λ ms. is_among ms n) met ∙ met_more r.met before name same n h))

-- \bibstyle

-- the state after a \bibstyle, given its fault
abbrev pub IsStyled : List File → Progress → List ℕ → Option LineFault → Type 0
IsStyled files r name None = named files Style name r ≡ (told (of_file FileLine StyleFile name) (record r { style = Some name }), Taken)
IsStyled files r name (Some f) = named files Style name r ≡ (record r { wanted = fold with_name r.wanted (missed (Some f)) }, outcome_of (Some f))

style_by : (files : List File) (r : Progress) (name : List ℕ) (f a : Bool) (t : Option (List ℕ)) → is_file_name name ≡ f → is_among r.met name ≡ a → text_of files name ≡ t
    → IsStyled files r name (cond (not f) (Some (WrongFile BadFileName name)) (cond (not (is_some t)) (Some (WrongFile (NotOpened Bst) name)) None))
style_by files r name false a t is_f is_a is_t = named_is files Style name r _ (fault_is Style r.met name true false a refl is_f is_a)
style_by files r name true true None is_f is_a is_t = named_is files Style name r _ (fault_is Style r.met name true true true refl is_f is_a) ∙ well_is files Style name r None is_t
style_by files r name true true (Some text) is_f is_a is_t = named_is files Style name r _ (fault_is Style r.met name true true true refl is_f is_a) ∙ well_is files Style name r (Some text) is_t
style_by files r name true false None is_f is_a is_t = named_is files Style name r _ (fault_is Style r.met name true true false refl is_f is_a) ∙ well_is files Style name r None is_t
style_by files r name true false (Some text) is_f is_a is_t = named_is files Style name r _ (fault_is Style r.met name true true false refl is_f is_a) ∙ well_is files Style name r (Some text) is_t

pub one_styled : (files : List File) (r : Progress) (name : List ℕ) → IsStyled files r name (style_fault files [] name)
one_styled files r name = style_by files r name (is_file_name name) (is_among r.met name) (text_of files name) refl refl refl

-- \@input

-- a name that \@input can open
abbrev pub is_input : List ℕ → Bool
is_input name = is_aux name && is_file_name name

-- the names that were met are those in front, as far as they can be opened
abbrev pub MetInputs : List (List ℕ) → List (List ℕ) → Type 0
MetInputs met before = (n : List ℕ) → is_input n ≡ true → is_among met n ≡ is_among before n

pub record Missed (r : Progress) (before : List (List ℕ)) (name : List ℕ) (f : LineFault) (x : Progress × Outcome) : Type 0 where
  pub met : List (List ℕ)
  pub is : x ≡ (record r { wanted = fold with_name r.wanted (missed (Some f)); met = met }, outcome_of (Some f))
  pub inputs : MetInputs met (before ++ name ∷ [])
  pub keeps : (n : List ℕ) → is_aux n ≡ false → is_among met n ≡ is_among r.met n

pub record Opened (files : List File) (r : Progress) (before : List (List ℕ)) (name : List ℕ) (x : Progress × Outcome) : Type 0 where
  pub text : List ℕ
  pub there : text_of files name ≡ Some text
  pub is : x ≡ (record r { met = r.met ++ name ∷ [] }, Opens name)
  pub inputs : MetInputs (r.met ++ name ∷ []) (before ++ name ∷ [])
  pub keeps : (n : List ℕ) → is_aux n ≡ false → is_among (r.met ++ name ∷ []) n ≡ is_among r.met n
  pub new : is_among before name ≡ false

abbrev pub IsInput : List File → Progress → List (List ℕ) → List ℕ → Option LineFault → Type 0
IsInput files r before name None = Opened files r before name (named files Nested name r)
IsInput files r before name (Some f) = Missed r before name f (named files Nested name r)

-- one more name on both sides
both_more : (met before : List (List ℕ)) (name : List ℕ) → MetInputs met before → MetInputs (met ++ name ∷ []) (before ++ name ∷ [])
both_more met before name same n h = is_among-append met name n ∙ ap (λ b. b || bytes_eq name n) (same n h) ∙ sym (is_among-append before name n)

-- a name in front that can't be opened
before_more : (met before : List (List ℕ)) (name : List ℕ) → MetInputs met before → is_input name ≡ false → MetInputs met (before ++ name ∷ [])
before_more met before name same not_input n h =
    same n h
    ∙ sym (is_among-append before name n ∙ ap (λ b. is_among before n || b) (bytes_differ (λ m. not (is_input m)) name n (ap not not_input) (ap not h)) ∙ or_false (is_among before n))

-- a name in front that was met
before_again : (met before : List (List ℕ)) (name : List ℕ) → MetInputs met before → is_among before name ≡ true → MetInputs met (before ++ name ∷ [])
before_again met before name same again n h = same n h ∙ sym (is_among-append before name n ∙ absorbed (is_among before n) (bytes_eq name n) refl refl)
  where
    absorbed : (a b : Bool) → is_among before n ≡ a → bytes_eq name n ≡ b → (a || b) ≡ a
    absorbed true b e k = refl
    absorbed false true e k = let wrong : is_among before n ≡ true = ap (is_among before) (sym (same_bytes name n k)) ∙ again in cc
    absorbed false false e k = refl

-- one more name, of an `.aux` file
aux_keeps : (met : List (List ℕ)) (name n : List ℕ) → is_aux name ≡ true → is_aux n ≡ false → is_among (met ++ name ∷ []) n ≡ is_among met n
aux_keeps met name n h k = is_among-append met name n ∙ ap (λ b. is_among met n || b) (bytes_differ is_aux name n h k) ∙ or_false (is_among met n)

input_by : (files : List File) (r : Progress) (before : List (List ℕ)) (name : List ℕ) (e f a : Bool) (t : Option (List ℕ)) → MetInputs r.met before
    → is_aux name ≡ e → is_file_name name ≡ f → is_among before name ≡ a → text_of files name ≡ t
    → IsInput files r before name (cond (not e) (Some (WrongFile WrongExtension name)) (cond (not f) (Some (WrongFile BadFileName name)) (cond a (Some (WrongFile AuxTwice name)) (cond (not (is_some t)) (Some (WrongFile (NotOpened Aux) name)) None))))
input_by files r before name false f a t same is_e is_f is_a is_t = record {
  met = r.met;
  is = named_is files Nested name r _ (fault_is Nested r.met name false f (is_among r.met name) is_e is_f refl);
  inputs = before_more r.met before name same (ap (λ b. b && is_file_name name) is_e);
  keeps = λ n h. refl;
}
input_by files r before name true false a t same is_e is_f is_a is_t = record {
  met = r.met;
  is = named_is files Nested name r _ (fault_is Nested r.met name true false (is_among r.met name) is_e is_f refl);
  inputs = before_more r.met before name same (ap₂ (λ a b. a && b) is_e is_f);
  keeps = λ n h. refl;
}
input_by files r before name true true true t same is_e is_f is_a is_t = record {
  met = r.met;
  is = named_is files Nested name r _ (fault_is Nested r.met name true true true is_e is_f (same name (ap₂ (λ a b. a && b) is_e is_f) ∙ is_a));
  inputs = before_again r.met before name same is_a;
  keeps = λ n h. refl;
}
input_by files r before name true true false None same is_e is_f is_a is_t = record {
  met = r.met ++ name ∷ [];
  is = named_is files Nested name r _ (fault_is Nested r.met name true true false is_e is_f (same name (ap₂ (λ a b. a && b) is_e is_f) ∙ is_a)) ∙ well_is files Nested name r None is_t;
  inputs = both_more r.met before name same;
  keeps = λ n h. aux_keeps r.met name n is_e h;
}
input_by files r before name true true false (Some text) same is_e is_f is_a is_t = record {
  text = text;
  there = is_t;
  is = named_is files Nested name r _ (fault_is Nested r.met name true true false is_e is_f (same name (ap₂ (λ a b. a && b) is_e is_f) ∙ is_a)) ∙ well_is files Nested name r (Some text) is_t;
  inputs = both_more r.met before name same;
  keeps = λ n h. aux_keeps r.met name n is_e h;
  new = is_a;
}

pub one_input : (files : List File) (r : Progress) (before : List (List ℕ)) (name : List ℕ) → MetInputs r.met before → IsInput files r before name (input_fault files before name)
one_input files r before name same = input_by files r before name (is_aux name) (is_file_name name) (is_among before name) (text_of files name) same refl refl refl refl

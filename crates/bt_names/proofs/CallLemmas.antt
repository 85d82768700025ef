-- What the public calls answer.
use Rattle.std.proofs.Common.{◌≡◌, ℕ, ℤ, ◌<◌, ◌≤◌, true, List, count_by, Option, None, Some, Result, Ok, Err, IsOk, IfErr, IsErrAnd, is_ok, is_some, refl, sym, ap, subst, ◌∙◌, Bool, false, ltb, IsOkAnd}
use Rattle.std.proofs.lemmas.Bool.{false≢true, ltb-false, ltb-true}
use Rattle.bt_text.specs.Blocks.{blocks}
use Rattle.bt_names.specs.declared.tokens.Parts.{Parts}
use Rattle.bt_names.specs.declared.faults.NameFault.{NameFault}
use Rattle.bt_names.specs.declared.faults.NameFault.TheVariants.{TooManyCommas, OutOfMemory as no_memory}
use Rattle.bt_names.specs.declared.faults.FormatFault.{FormatFault}
use Rattle.bt_names.specs.declared.faults.FormatFault.TheVariants.{TooManyCommas as too_many, PatternFault, OutOfMemory, NoSuchName}
use Rattle.bt_names.specs.Names.{name_at}
use Rattle.bt_names.specs.NameParts.{parts_of}
use Rattle.bt_names.specs.Patterns.{pattern_fault}
use Rattle.bt_names.specs.inner.Cases.{is_comma, name_parts_or_fault, parts_or_fault, formatted_or_fault, formatted_parts, text_or_fault}
use Rattle.bt_names.specs.FormattedName.{IsNameFault, name_parts, IsFormatFault, formatted_name}
use Rattle.bt_names.proofs.SplittingLemmas.{few_commas, too_many_commas}
use Rattle.bt_names.specs.Groups.{formatted}
use Rattle.bt_names.specs.Written.{IsKept}

pub no_parts : (names : List ℕ) (n : ℤ) (name : List ℕ) → name_at names n ≡ Some name → 2 < count_by is_comma (blocks name) → name_parts names n ≡ Err TooManyCommas
unfolding name_parts
no_parts names n name e h = ap name_parts_or_fault e ∙ ap parts_or_fault (too_many_commas name h)

ok_parts : (o : Option Parts) → is_some o ≡ true → IsOk (parts_or_fault o)
ok_parts None h = absurd (false≢true h)
ok_parts (Some p) h = refl

pub some_parts : (names : List ℕ) (n : ℤ) (name : List ℕ) → name_at names n ≡ Some name → count_by is_comma (blocks name) ≤ 2 → IsOk (name_parts names n)
unfolding name_parts
some_parts names n name e h = subst (λ o. IsOk (name_parts_or_fault o)) (sym e) (ok_parts (parts_of name) (few_commas name h))

pub no_text : (names : List ℕ) (n : ℤ) (name pattern : List ℕ) → name_at names n ≡ Some name → 2 < count_by is_comma (blocks name) → formatted_name names n pattern ≡ Err too_many
unfolding formatted_name
no_text names n name pattern e h = ap (λ o. formatted_or_fault pattern o) e ∙ ap (λ o. formatted_parts pattern o) (too_many_commas name h)

fault_text : (o : Option Parts) (pattern : List ℕ) (place : ℕ) → is_some o ≡ true → pattern_fault pattern ≡ Some place → formatted_parts pattern o ≡ Err (PatternFault place)
fault_text None pattern place h e = absurd (false≢true h)
fault_text (Some p) pattern place h e = ap (λ f. text_or_fault p pattern f) e

pub fault_of_pattern : (names : List ℕ) (n : ℤ) (name pattern : List ℕ) (place : ℕ) → name_at names n ≡ Some name → count_by is_comma (blocks name) ≤ 2 → pattern_fault pattern ≡ Some place → formatted_name names n pattern ≡ Err (PatternFault place)
unfolding formatted_name
fault_of_pattern names n name pattern place e h f = ap (λ o. formatted_or_fault pattern o) e ∙ fault_text (parts_of name) pattern place (few_commas name h) f

ok_text : (o : Option Parts) (pattern : List ℕ) → is_some o ≡ true → pattern_fault pattern ≡ None → IsOk (formatted_parts pattern o)
ok_text None pattern h e = absurd (false≢true h)
ok_text (Some p) pattern h e = ap (λ f. is_ok (text_or_fault p pattern f)) e

pub some_text : (names : List ℕ) (n : ℤ) (name pattern : List ℕ) → name_at names n ≡ Some name → count_by is_comma (blocks name) ≤ 2 → pattern_fault pattern ≡ None → IsOk (formatted_name names n pattern)
unfolding formatted_name
some_text names n name pattern e h f = subst (λ o. IsOk (formatted_or_fault pattern o)) (sym e) (ok_text (parts_of name) pattern (few_commas name h) f)

pub memory_name_fault : {X : Type 0} (r : Result X NameFault) (out : Result Parts NameFault) → IsErrAnd r (λ e. e ≡ no_memory) → IsOk out → IfErr r (IsNameFault out)
memory_name_fault (Ok x) out h k = tt
memory_name_fault (Err e) out h k = rw h k

pub memory_format_fault : {X : Type 0} (r : Result X FormatFault) (out : Result (List ℕ) FormatFault) → IsErrAnd r (λ e. e ≡ OutOfMemory) → IsOk out → IfErr r (IsFormatFault out)
memory_format_fault (Ok x) out h k = tt
memory_format_fault (Err e) out h k = rw h k

pub no_such : (names : List ℕ) (n : ℤ) (pattern : List ℕ) → name_at names n ≡ None → formatted_name names n pattern ≡ Err NoSuchName
unfolding formatted_name
no_such names n pattern e = ap (λ o. formatted_or_fault pattern o) e

is_formatted : (names : List ℕ) (n : ℤ) (name pattern : List ℕ) (parts : Parts) → name_at names n ≡ Some name → parts_of name ≡ Some parts → pattern_fault pattern ≡ None → formatted_name names n pattern ≡ Ok (formatted parts pattern)
unfolding formatted_name
is_formatted names n name pattern parts e f g = ap (λ o. formatted_or_fault pattern o) e ∙ ap (λ o. formatted_parts pattern o) f ∙ ap (λ o. text_or_fault parts pattern o) g

pub says_of_text : (P : List ℕ → Type 0) (names : List ℕ) (n : ℤ) (name pattern t : List ℕ) (parts : Parts) → name_at names n ≡ Some name → parts_of name ≡ Some parts → pattern_fault pattern ≡ None → t ≡ formatted parts pattern → P t → IsOkAnd (formatted_name names n pattern) P
says_of_text P names n name pattern t parts e f g is told =
    subst (λ r. IsOkAnd r P) (sym (is_formatted names n name pattern parts e f g)) (subst P is told)

-- the exit of a `?`
pub out_of_memory : {X : Type 0} (r : Result X FormatFault) (names : List ℕ) (n : ℤ) (name pattern : List ℕ) → IsErrAnd r (λ e. e ≡ OutOfMemory) → name_at names n ≡ Some name → count_by is_comma (blocks name) ≤ 2 → pattern_fault pattern ≡ None → IfErr r (IsFormatFault (formatted_name names n pattern))
out_of_memory r names n name pattern same e few g = memory_format_fault r _ same (some_text names n name pattern e few g)

pub memory_keeps : {X : Type 0} (r : Result X FormatFault) (old new : List ℕ) → IsErrAnd r (λ e. e ≡ OutOfMemory) → IfErr r (IsKept old new)
memory_keeps (Ok x) old new h = tt
memory_keeps (Err e) old new h = rw h tt

pub many : (b : Bool) (n : ℕ) → b ≡ ltb 2 n → b ≡ true → 2 < n
many b n is e = ltb-true 2 n (sym is ∙ e)

pub few : (b : Bool) (n : ℕ) → b ≡ ltb 2 n → b ≡ false → n ≤ 2
few b n is e = ltb-false 2 n (sym is ∙ e)

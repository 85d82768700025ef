-- A quote is no name of a style that is read, so nothing can be run by it.
use Rattle.std.specs.Prelude.{bytes_eq, nat_lt, ◌&&◌, not}
use Rattle.std.specs.List.{list_all}
use Rattle.std.specs.Char.{to_ascii_lowercase}
use Rattle.std.specs.Cmp.Lexicographic.{bytes_decides}
use Rattle.std.proofs.lemmas.Bool.{cond-false, false≢true}
use Rattle.std.proofs.Common.{◌≡◌, ◌∙◌, ap, refl, subst, ℕ, suc, ◌+◌, Bool, true, false, cond, List, [], ◌∷◌, length, codes, Some, None, Result, Ok, Err, arith}
use Rattle.bt_text.specs.ByteTests.{is_digit}
use Rattle.bt_text.specs.CaseFolding.{folded}
use Rattle.bt_text.specs.NameBytes.{is_name, is_name_byte}
use Rattle.bt_style.specs.declared.fault.StyleFault.{StyleFault}
use Rattle.bt_style.specs.declared.names.Names.{Names}
use Rattle.bt_style.specs.declared.style.Target.TheVariants as targets
use Rattle.bt_style.specs.Program.{Program}
use Rattle.bt_style.specs.Tree.{Body}
use Rattle.bt_style.specs.Fault.{◌>>=◌}
use Rattle.bt_style.specs.Names.{builtin_named, target_named, is_taken}
use Rattle.bt_style.specs.Builtins.{table}
use Rattle.bt_style.specs.Token.{tokens_of, count}
use Rattle.bt_style.specs.Reader.{reading, style_of}
use Rattle.bt_style.specs.declared.verbs.Stage.TheVariants.{BeforeEntry}
use Rattle.bt_style.specs.laws.Laws.{QuoteNamesNothing}
use Rattle.bt_style.specs.Draft.{preset, with_name}
use Rattle.bt_style.specs.inner.Cases.{with_function, target_or_fault}
use Rattle.bt_style.specs.inner.Draft.{next_target}
use Rattle.bt_style.specs.Declares.{new_name, runnable}
use Rattle.bt_style.specs.Commands.{run_target}
use Rattle.bt_style.proofs.NameLemmas.{meaning_declared, meaning_defined}
use Rattle.bt_style.proofs.SpelledLemmas.{ok_same}
use Rattle.bt_style.proofs.KeptLemmas.{IsKept, commands_keep}
use Rattle.bt_style.proofs.ApartLemmas.{absent}
use Rattle.bt_style.proofs.SeekLemmas.{not_true}

abbrev quote : List ℕ
quote = codes "\""

-- a quote is no name of a style
abbrev pub Quoteless : Program → Type 0
Quoteless p = target_named p quote ≡ None

lower_by : (b : ℕ) (v w : Bool) → is_name_byte b ≡ true → cond v b (cond w (b + 32) b) ≡ 34 → ⊥
lower_by b true w is e = false≢true (subst (λ n. is_name_byte n ≡ true) e is)
lower_by b false true is e = (let two : b ≡ 2 = omega (arith, e) in false≢true (subst (λ n. is_name_byte n ≡ true) two is))
lower_by b false false is e = false≢true (subst (λ n. is_name_byte n ≡ true) e is)

middle : (v w u : Bool) → (v && (w && u)) ≡ true → w ≡ true
middle true true u h = refl
middle true false u h = cc
middle false w u h = cc

first_byte : (b : ℕ) (t : List ℕ) (c : ℕ) → ◌≡◌ {A = List ℕ} (b ∷ t) (c ∷ []) → b ≡ c
first_byte b t c e = cc

differs : (word : List ℕ) → is_name word ≡ true → bytes_eq (folded word) quote ≡ false
differs [] is = cc
differs (b ∷ t) is = not_true (bytes_eq (folded (b ∷ t)) quote) (λ same.
    lower_by b (nat_lt b 65) (nat_lt b 91) (middle (not (is_digit b)) (is_name_byte b) (list_all is_name_byte t) is)
    (first_byte (to_ascii_lowercase b) (folded t) 34 ((bytes_decides (folded (b ∷ t)) quote).0 same)))

-- a name that is declared wasn't taken, and is no quote
record IsNew (taken : List ℕ → Bool) (name : List ℕ) : Type 0 where
  free : taken name ≡ false
  other : bytes_eq name quote ≡ false

new_by : (taken : List ℕ → Bool) (word name : List ℕ) (a b : Bool) (e f : StyleFault) → is_name word ≡ a → taken (folded word) ≡ b →
    ◌≡◌ {A = Result (List ℕ) StyleFault} (cond (not a) (Err e) (cond b (Err f) (Ok (folded word)))) (Ok name) → IsNew taken name
new_by taken word name true true e f is free h = cc
new_by taken word name true false e f is free h = subst (IsNew taken) (ok_same (folded word) name h) (record { free = free; other = differs word is })
new_by taken word name false b e f is free h = cc

new : (taken : List ℕ → Bool) (word : List ℕ) (line : ℕ) (name : List ℕ) → new_name taken word line ≡ Ok name → IsNew taken name
new taken word line name h = new_by taken word name (is_name word) (taken (folded word)) _ _ refl refl h

named : (names : Names) (p : Program) (name : List ℕ) → IsNew (is_taken p) name → Quoteless p → Quoteless (with_name names name p)
named names p name n q =
    meaning_declared names name quote p (absent (target_named p name) n.free) ∙ cond-false (bytes_eq name quote) (Some (next_target names p)) (target_named p quote) n.other ∙ q

defined : (p : Program) (name : List ℕ) (body : Body) → IsNew (is_taken p) name → Quoteless p → Quoteless (with_function name body p)
defined p name body n q =
    meaning_defined name quote body p (absent (target_named p name) n.free) ∙ cond-false (bytes_eq name quote) (Some (targets.Function (length p.functions))) (target_named p quote) n.other ∙ q

pub quoteless_kept : IsKept Quoteless
unfolding target_named
quoteless_kept = record {
  named = λ names p word line name h q. named names p name (new (is_taken p) word line name h) q;
  defined = λ p word line name tokens body rest h b q. defined p name body (new (is_taken p) word line name h) q;
  macro = λ p word line name text h q. q;
  listed = λ p action line acts q. q;
}

pub preset_quoteless : Quoteless preset
unfolding target_named builtin_named table
preset_quoteless = refl

pub quote_names_nothing : QuoteNamesNothing
unfolding style_of reading
quote_names_nothing text p h = commands_keep Quoteless quoteless_kept (suc (count (tokens_of text))) BeforeEntry preset (tokens_of text) p preset_quoteless h

-- what a quote is refused with
pub run_refuses : (p : Program) → Quoteless p → (line : ℕ) → (f : StyleFault) × (run_target p quote line ≡ Err f)
run_refuses p q line = (_, ap (λ o. target_or_fault o line >>= λ t. runnable t line) q)

pub new_refuses : (taken : List ℕ → Bool) → (line : ℕ) → (f : StyleFault) × (new_name taken quote line ≡ Err f)
new_refuses taken line = (_, refl)

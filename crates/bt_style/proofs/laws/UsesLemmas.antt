-- The names that a style uses are declared before.
use Rattle.std.specs.Prelude.{All, slice_get}
use Rattle.std.proofs.Common.{◌≡◌, ◌⊎◌, inl, inr, ap, sym, refl, subst, ℕ, zero, suc, ◌≤◌, List, [], ◌∷◌, ◌++◌, length, Some, arith}
use Rattle.std.proofs.lemmas.List.Elements.{All-nil, All-push, All-weaker}
use Rattle.std.proofs.lemmas.List.{length-append}
use Rattle.std.proofs.lemmas.Option.{slice_get_within}
use Rattle.bt_style.specs.declared.names.Names.{Names}
use Rattle.bt_style.specs.declared.names.Names.TheVariants.{Fields, EntryNumbers, EntryTexts, GlobalNumbers, GlobalTexts}
use Rattle.bt_style.specs.declared.style.Target.{Target}
use Rattle.bt_style.specs.declared.style.Target.TheVariants as targets
use Rattle.bt_style.specs.declared.style.Command.{Command}
use Rattle.bt_style.specs.declared.style.Action.{Action}
use Rattle.bt_style.specs.declared.style.Action.TheVariants as actions
use Rattle.bt_style.specs.declared.verbs.Stage.TheVariants.{BeforeEntry}
use Rattle.bt_style.specs.Program.{Program, Definition}
use Rattle.bt_style.specs.Tree.{Body}
use Rattle.bt_style.specs.Token.{tokens_of, count}
use Rattle.bt_style.specs.Draft.{preset, with_name, with_command}
use Rattle.bt_style.specs.inner.Cases.{with_macro, with_function}
use Rattle.bt_style.specs.Reader.{reading, style_of}
use Rattle.bt_style.specs.Reach.{body_names}
use Rattle.bt_style.specs.Uses.{IsDeclared, NamesDeclared}
use Rattle.bt_style.specs.laws.Uses.{UsesDeclared, NamesComeFirst}
use Rattle.bt_style.proofs.laws.DeclaredLemmas.{body_within}
use Rattle.bt_style.proofs.KeptLemmas.{IsKept, commands_keep}

-- a style has all names of another: its fields, entry numbers, entry texts, global numbers, global texts, macros and functions
abbrev Grows : Program → Program → Type 0
Grows p q =
    (length p.fields ≤ length q.fields) × (length p.entry_numbers ≤ length q.entry_numbers) × (length p.entry_texts ≤ length q.entry_texts)
    × (length p.global_numbers ≤ length q.global_numbers) × (length p.global_texts ≤ length q.global_texts) × (length p.macros ≤ length q.macros)
    × (length p.functions ≤ length q.functions)

declared_still : (p q : Program) → Grows p q → (m n : ℕ) → m ≤ n → (t : Target) → IsDeclared p m t → IsDeclared q n t
declared_still p q g m n le (targets.Builtin b) h = tt
declared_still p q g m n le (targets.Field k) h = omega (arith, g.0, h)
declared_still p q g m n le (targets.EntryNumber k) h = omega (arith, g.1, h)
declared_still p q g m n le (targets.EntryText k) h = omega (arith, g.2, h)
declared_still p q g m n le (targets.GlobalNumber k) h = omega (arith, g.3, h)
declared_still p q g m n le (targets.GlobalText k) h = omega (arith, g.4, h)
declared_still p q g m n le (targets.Function k) h = omega (arith, le, h)

acts_still : (p q : Program) → Grows p q → (a : Action) → NamesDeclared p a → NamesDeclared q a
acts_still p q g actions.Entry h = tt
acts_still p q g (actions.Execute t) h = declared_still p q g (length p.functions) (length q.functions) g.6 t h
acts_still p q g (actions.Function n) h = omega (arith, g.6, h)
acts_still p q g actions.Integers h = tt
acts_still p q g (actions.Iterate t) h = declared_still p q g (length p.functions) (length q.functions) g.6 t h
acts_still p q g (actions.Macro n) h = omega (arith, g.5, h)
acts_still p q g actions.Read h = tt
acts_still p q g (actions.Reverse t) h = declared_still p q g (length p.functions) (length q.functions) g.6 t h
acts_still p q g actions.Sort h = tt
acts_still p q g actions.Strings h = tt

body_still : (p q : Program) → Grows p q → (n : ℕ) (b : Body) → All (IsDeclared p n) (body_names b) → All (IsDeclared q n) (body_names b)
body_still p q g n b h = All-weaker (IsDeclared p n) (IsDeclared q n) (declared_still p q g n n (omega arith)) (body_names b) h

commands_still : (p q : Program) → Grows p q → (cs : List Command) → All (λ c. NamesDeclared p c.action) cs → All (λ c. NamesDeclared q c.action) cs
commands_still p q g cs h = All-weaker (λ (c : Command). NamesDeclared p c.action) (λ (c : Command). NamesDeclared q c.action) (λ c. acts_still p q g c.action) cs h

-- functions and commands stay as they are
uses_still : (p q : Program) → Grows p q → p.functions ≡ q.functions → p.commands ≡ q.commands → UsesDeclared p → UsesDeclared q
uses_still p q g fs cs u = record {
  bodies = λ n f e. body_still p q g n f.body (u.bodies n f (subst (λ (l : List Definition). slice_get l n ≡ Some f) (sym fs) e));
  commands = subst (All (λ c. NamesDeclared q c.action)) cs (commands_still p q g p.commands u.commands);
}

same : (n : ℕ) → n ≤ n
same n = omega arith

one_more : {A : Type 0} (xs : List A) (x : A) → length xs ≤ length (xs ++ x ∷ [])
one_more xs x = omega (arith, length-append xs (x ∷ []))

itself : (p : Program) → Grows p p
itself p = (
  same (length p.fields),
  same (length p.entry_numbers),
  same (length p.entry_texts),
  same (length p.global_numbers),
  same (length p.global_texts),
  same (length p.macros),
  same (length p.functions),
)

named_uses : (list : Names) (name : List ℕ) (p : Program) → UsesDeclared p → UsesDeclared (with_name list name p)
named_uses Fields name p u = (let i = itself p in uses_still p (with_name Fields name p) (one_more p.fields name, i.1, i.2, i.3, i.4, i.5, i.6) refl refl u)
named_uses EntryNumbers name p u = (let i = itself p in uses_still p (with_name EntryNumbers name p) (i.0, one_more p.entry_numbers name, i.2, i.3, i.4, i.5, i.6) refl refl u)
named_uses EntryTexts name p u = (let i = itself p in uses_still p (with_name EntryTexts name p) (i.0, i.1, one_more p.entry_texts name, i.3, i.4, i.5, i.6) refl refl u)
named_uses GlobalNumbers name p u = (let i = itself p in uses_still p (with_name GlobalNumbers name p) (i.0, i.1, i.2, one_more p.global_numbers name, i.4, i.5, i.6) refl refl u)
named_uses GlobalTexts name p u = (let i = itself p in uses_still p (with_name GlobalTexts name p) (i.0, i.1, i.2, i.3, one_more p.global_texts name, i.5, i.6) refl refl u)

macro_uses : (p : Program) (name text : List ℕ) → UsesDeclared p → UsesDeclared (with_macro name text p)
macro_uses p name text u =
    let i = itself p in
    uses_still p (with_macro name text p) (i.0, i.1, i.2, i.3, i.4, one_more p.macros (record { name = name; text = text }), i.6) refl refl u

-- an element of a longer list is an old one, or the last
pub pushed : {A : Type 0} (fs : List A) (d : A) (n : ℕ) (f : A) → slice_get (fs ++ d ∷ []) n ≡ Some f → (slice_get fs n ≡ Some f) ⊎ ((n ≡ length fs) × (d ≡ f))
pushed [] d zero f e = inr (refl, cc e)
pushed [] d (suc n) f e = cc
pushed (g ∷ fs) d zero f e = inl e
pushed (g ∷ fs) d (suc n) f e = elim (pushed fs d n f e) [ inl old ↦ inl old | inr last ↦ inr (ap (λ k. suc k) last.0, last.1) ]

defined_uses : (p : Program) (name : List ℕ) (b : Body) → All (IsDeclared p (length p.functions)) (body_names b) → UsesDeclared p → UsesDeclared (with_function name b p)
defined_uses p name b within u =
    let d : Definition = record { name = name; body = b } in
    let q : Program = with_function name b p in
    let i = itself p in
    let g : Grows p q = (i.0, i.1, i.2, i.3, i.4, i.5, one_more p.functions d) in
    record {
      bodies = λ n f e. elim (pushed p.functions d n f e) [
        | inl old ↦ body_still p q g n f.body (u.bodies n f old)
        | inr last ↦
            (let now : All (IsDeclared q (length p.functions)) (body_names b) = body_still p q g (length p.functions) b within in
            subst (λ (x : Definition). All (IsDeclared q n) (body_names x.body)) last.1 (subst (λ k. All (IsDeclared q k) (body_names b)) (sym last.0) now))
      ];
      commands = commands_still p q g p.commands u.commands;
    }

listed_uses : (p : Program) (action : Action) (line : ℕ) → NamesDeclared p action → UsesDeclared p → UsesDeclared (with_command action line p)
listed_uses p action line acts u =
    let c : Command = record { action = action; line = line } in
    let q : Program = with_command action line p in
    record {
      bodies = λ n f e. body_still p q (itself p) n f.body (u.bodies n f e);
      commands = All-push (λ c. NamesDeclared q c.action) p.commands c (commands_still p q (itself p) p.commands u.commands) (acts_still p q (itself p) action acts);
    }

are_kept : IsKept UsesDeclared
are_kept = record {
  named = λ list p word line name h u. named_uses list name p u;
  defined = λ p word line name tokens body rest h b u. defined_uses p name body (body_within p tokens body rest b) u;
  macro = λ p word line name text h u. macro_uses p name text u;
  listed = λ p action line acts u. listed_uses p action line acts u;
}

none_uses : UsesDeclared preset
none_uses = record { bodies = λ n f e. absurd (omega (arith, slice_get_within [] n f e)); commands = All-nil (λ c. NamesDeclared preset c.action) }

pub names_come_first : NamesComeFirst
unfolding style_of reading
names_come_first text p h = commands_keep UsesDeclared are_kept (suc (count (tokens_of text))) BeforeEntry preset (tokens_of text) p none_uses h

-- The rules by which a body is checked: what each of its elements makes of what is known.
use Rattle.std.specs.Prelude.{◌≡◌, ℕ, ℤ, true, List, [], ◌∷◌, Some}
use Rattle.bt_style.specs.declared.builtin.Builtin.{Builtin as Primitive}
use Rattle.bt_style.specs.declared.builtin.Builtin.TheVariants as builtin
use Rattle.bt_style.specs.declared.style.Target.{Target}
use Rattle.bt_style.specs.declared.style.Target.TheVariants.{Builtin, Field, EntryNumber, EntryText, GlobalNumber, GlobalText, Function}
use Rattle.bt_style.specs.Tree.{Element, Amount, Words, Quoted, Braced, Called, Body, End, Then}
use Rattle.bt_style.specs.Program.{Program}
use Rattle.bt_actions.specs.Item.{Code, Name, Block}
use Rattle.bt_machine.specs.Eval.{code_body, default_type, function_body}
use Rattle.bt_sound.specs.Known.{Range, Known, Number, Text, Run, KnownEntry, State, holding, exactly}
use Rattle.bt_sound.specs.Transfer.{stack_after}
use Rattle.bt_sound.specs.Reading.{pushing, upto_zero, above_zero, is_open, field_read, own_number_read, own_text_read, global_number_read, global_text_read, entry_text_read, doubled, assigning}
use Rattle.bt_sound.specs.Holds.{Leads, Does, ForEach, Covers, literal, Turns, DefaultLeads}

-- With the functions on the top of the stack that `if$` chooses from: each branch is checked where it may be run.
abbrev pub ChoosesBranch : Program → List ℕ → Type 0
ChoosesBranch p types =
    (first second : Code) (r : Range) (ks : List Known) (s : State) (ts : List State) →
    (is_open (above_zero r) ≡ true → Leads p types (code_body first) (holding ks s ∷ []) ts) →
    (is_open (upto_zero r) ≡ true → Leads p types (code_body second) (holding ks s ∷ []) ts) →
    Does p types (Called (Builtin builtin.If)) (holding (Run second ∷ Run first ∷ Number r ∷ ks) s) ts

-- `while$`: its test and its body lead from some states, the heads, to the heads again.
abbrev pub LoopsByHeads : Program → List ℕ → Type 0
LoopsByHeads p types =
    (test body : Code) (ks : List Known) (s : State) (heads mids goes ends : List State) →
    Covers types (holding ks s ∷ []) heads → Leads p types (code_body test) heads mids →
    ForEach (Turns types goes ends) mids → Leads p types (code_body body) goes heads →
    Does p types (Called (Builtin builtin.While)) (holding (Run body ∷ Run test ∷ ks) s) ends

-- `call.type$`: the function of each type, and `default.type`, are checked.
abbrev pub CallsTypes : Program → List ℕ → Type 0
CallsTypes p types =
    (s : State) (k : KnownEntry) → s.entry ≡ Some k → (ts : List State) →
    ForEach (λ n. Leads p types (function_body p.functions n) (s ∷ []) ts) types →
    DefaultLeads p types (default_type p.functions) s ts →
    Does p types (Called (Builtin builtin.CallType)) s ts

pub record Rules (p : Program) (types : List ℕ) : Type 0 where
  -- bodies
  pub ending : (ss : List State) → Leads p types End ss ss
  pub going : (e : Element) (rest : Body) (ss ts us : List State) → ForEach (λ s. Does p types e s ts) ss →
      Leads p types rest ts us → Leads p types (Then e rest) ss us
  pub weaker : (b : Body) (ss ss' ts ts' : List State) → Covers types ss' ss → Leads p types b ss ts →
      Covers types ts ts' → Leads p types b ss' ts'
  -- values that are put on the stack
  pub number : (n : ℤ) (s : State) → Does p types (Amount n) s (pushing (Number (exactly n)) s ∷ [])
  pub words : (t : List ℕ) (s : State) → Does p types (Words t) s (pushing (Text (literal t)) s ∷ [])
  pub quoted : (t : Target) (s : State) → Does p types (Quoted t) s (pushing (Run (Name t)) s ∷ [])
  pub braced : (b : Body) (s : State) → Does p types (Braced b) s (pushing (Run (Block b)) s ∷ [])
  -- names that are read
  pub field : (n : ℕ) (s : State) (out : List State) → field_read n s ≡ Some out →
      Does p types (Called (Field n)) s out
  pub own_number : (n : ℕ) (s : State) (out : List State) → own_number_read n s ≡ Some out →
      Does p types (Called (EntryNumber n)) s out
  pub own_text : (n : ℕ) (s : State) (out : List State) → own_text_read n s ≡ Some out →
      Does p types (Called (EntryText n)) s out
  pub global_number : (n : ℕ) (s : State) → Does p types (Called (GlobalNumber n)) s (global_number_read n s)
  pub global_text : (n : ℕ) (s : State) → Does p types (Called (GlobalText n)) s (global_text_read n s)
  -- a function is checked in its place, with what is known there
  pub call : (n : ℕ) (s : State) (ts : List State) → Leads p types (function_body p.functions n) (s ∷ []) ts →
      Does p types (Called (Function n)) s ts
  -- built-in functions
  pub basic : (b : Primitive) (s : State) (out : List Known) → stack_after b s.stack ≡ Some out →
      Does p types (Called (Builtin b)) s (holding out s ∷ [])
  pub assign : (s out : State) → assigning s.stack s ≡ Some out →
      Does p types (Called (Builtin builtin.Assign)) s (out ∷ [])
  pub double : (s : State) (out : List State) → doubled s.stack s ≡ Some out →
      Does p types (Called (Builtin builtin.Duplicate)) s out
  pub cite : (s : State) (out : List State) → entry_text_read s ≡ Some out →
      Does p types (Called (Builtin builtin.Cite)) s out
  pub kind : (s : State) (out : List State) → entry_text_read s ≡ Some out →
      Does p types (Called (Builtin builtin.Type)) s out
  pub branch : ChoosesBranch p types
  pub loop : LoopsByHeads p types
  pub call_type : CallsTypes p types

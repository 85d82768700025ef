-- The states that the code has, and what follows for each of them.
use Rattle.std.proofs.Common.{◌≡◌, ℕ, ◌+◌, ◌<◌, ◌≤◌, true, false, ◌&&◌, ◌||◌, List, [], ◌∷◌, ◌++◌, take, length, get_or, refl, sym, subst, ap, ◌∙◌, true≢false}
use Rattle.std.specs.List.{list_all, list_any}
use Rattle.std.proofs.lemmas.Bool.{and_parts}
use Rattle.std.proofs.lemmas.List.{map-append, take_more, take_all}
use Rattle.bt_style.specs.declared.builtin.Builtin.TheVariants as builtin
use Rattle.bt_style.specs.declared.style.Target.TheVariants.{Builtin}
use Rattle.bt_style.specs.Tree.{Element, Called}
use Rattle.bt_style.specs.Program.{Program}
use Rattle.bt_actions.specs.Item.{Code}
use Rattle.bt_machine.specs.Eval.{code_body, function_body}
use Rattle.bt_sound.specs.Known.{Known, KnownVariables, State}
use Rattle.bt_sound.specs.Holds.{ForEach}
use Rattle.bt_sound.specs.Below.{variables_within, is_within, is_covered}
use Rattle.bt_sound.specs.declared.state.State.{State as HeldState}
use Rattle.bt_sound.specs.Seen.{state_seen, states_seen}
use Rattle.bt_sound.specs.Follows.{is_bare, Follows, Acts, Covered, Chooses, Splits, SplitsOff, FollowsTypes, GlobalsWithin}
use Rattle.bt_sound.proofs.CoverLemmas.{covered_in}
use Rattle.bt_sound.proofs.FollowLemmas.{acts_if, acts_more, one_more_split, one_more_type}

seen_more : (states : List HeldState) (k : ℕ) (s : HeldState) → k < length states → s ≡ get_or states k s → states_seen (take (k + 1) states) ≡ states_seen (take k states) ++ state_seen s ∷ []
seen_more states k s h q =
    ap states_seen (take_more states k s h)
    ∙ map-append state_seen (take k states) (get_or states k s ∷ [])
    ∙ ap (λ (x : HeldState). states_seen (take k states) ++ state_seen x ∷ []) (sym q)

pub both_seen : (out more new : List HeldState) → new ≡ out ++ more → states_seen new ≡ states_seen out ++ states_seen more
both_seen out more new q = ap states_seen q ∙ map-append state_seen out more

pub each_state : (p : Program) (types : List ℕ) (e : Element) (states : List HeldState) (k : ℕ) (s : HeldState) (out more new : List HeldState) → k < length states → s ≡ get_or states k s → new ≡ out ++ more → Acts p types e (states_seen (take k states)) (states_seen out) → Acts p types e (state_seen s ∷ []) (states_seen more) → Acts p types e (states_seen (take (k + 1) states)) (states_seen new)
each_state p types e states k s out more new h q i a b =
    subst (λ ss. Acts p types e ss (states_seen new)) (sym (seen_more states k s h q))
    (subst (λ ts. Acts p types e (states_seen (take k states) ++ state_seen s ∷ []) ts) (sym (both_seen out more new i))
    (acts_more p types e (states_seen (take k states)) (state_seen s) (states_seen out) (states_seen more) a b))

pub each_split : (states : List HeldState) (k : ℕ) (s : HeldState) (goes ends goes' ends' : List HeldState) → k < length states → s ≡ get_or states k s → Splits (states_seen (take k states)) (states_seen goes) (states_seen ends) → SplitsOff (state_seen s) (states_seen goes) (states_seen ends) (states_seen goes') (states_seen ends') → Splits (states_seen (take (k + 1) states)) (states_seen goes') (states_seen ends')
each_split states k s goes ends goes' ends' h q a b =
    subst (λ ss. Splits ss (states_seen goes') (states_seen ends')) (sym (seen_more states k s h q))
    (one_more_split (states_seen (take k states)) (state_seen s) (states_seen goes) (states_seen ends) (states_seen goes') (states_seen ends') a b)

pub each_type : (p : Program) (types ns : List ℕ) (k d : ℕ) (s : HeldState) (ss out more new : List HeldState) → k < length ns → new ≡ out ++ more → states_seen ss ≡ state_seen s ∷ [] → FollowsTypes p types (take k ns) (state_seen s) (states_seen out) → Follows p types (function_body p.functions (get_or ns k d)) (states_seen ss) (states_seen more) → FollowsTypes p types (take (k + 1) ns) (state_seen s) (states_seen new)
each_type p types ns k d s ss out more new h i j a f =
    subst (λ ms. FollowsTypes p types ms (state_seen s) (states_seen new)) (sym (take_more ns k d h))
    (subst (λ ts. FollowsTypes p types (take k ns ++ get_or ns k d ∷ []) (state_seen s) ts) (sym (both_seen out more new i))
    (one_more_type p types (take k ns) (get_or ns k d) (state_seen s) (states_seen ss) (states_seen out) (states_seen more) a j f))

pub bare_states : (ss : List HeldState) → list_all (λ s. is_bare (state_seen s)) ss ≡ true → ForEach (λ s. s.stack ≡ []) (states_seen ss)
bare_states [] e = tt
bare_states (s ∷ ss) e =
    let i = and_parts (is_bare (state_seen s)) (list_all (λ s. is_bare (state_seen s)) ss) e in
    (bare_is (state_seen s).stack i.0, bare_states ss i.1)
  where
    bare_is : (ks : List Known) → elim ks [ [] ↦ true | k ∷ ks ↦ false ] ≡ true → ks ≡ []
    bare_is [] e = refl
    bare_is (k ∷ ks) e = absurd (true≢false (sym e))

all_within : (ss : List HeldState) (k : KnownVariables) → list_all (λ s. variables_within (state_seen s).globals k) ss ≡ true → ForEach (λ s. variables_within s.globals k ≡ true) (states_seen ss)
all_within [] k e = tt
all_within (s ∷ ss) k e =
    let i = and_parts (variables_within (state_seen s).globals k) (list_all (λ s. variables_within (state_seen s).globals k) ss) e in
    (i.0, all_within ss k i.1)

pub globals_within : (ss : List HeldState) (k : KnownVariables) → list_all (λ s. variables_within (state_seen s).globals k) ss ≡ true → GlobalsWithin (states_seen ss) k
globals_within ss k e = record { within = all_within ss k e }

any_seen : (s : State) (ts : List HeldState) → list_any (λ t. is_within s (state_seen t)) ts ≡ list_any (is_within s) (states_seen ts)
any_seen s [] = refl
any_seen s (t ∷ ts) = ap (λ b. is_within s (state_seen t) || b) (any_seen s ts)

all_seen : (ss ts : List HeldState) → list_all (λ s. list_any (λ t. is_within (state_seen s) (state_seen t)) ts) ss ≡ is_covered (states_seen ss) (states_seen ts)
all_seen [] ts = refl
all_seen (s ∷ ss) ts =
    ap (λ b. b && list_all (λ s. list_any (λ t. is_within (state_seen s) (state_seen t)) ts) ss) (any_seen (state_seen s) ts)
    ∙ ap (λ b. list_any (is_within (state_seen s)) (states_seen ts) && b) (all_seen ss ts)

pub covered_states : (ss ts : List HeldState) → list_all (λ s. list_any (λ t. is_within (state_seen s) (state_seen t)) ts) ss ≡ true → Covered (states_seen ss) (states_seen ts)
covered_states ss ts e = record { covers = λ types. covered_in types (states_seen ss) (states_seen ts) (sym (all_seen ss ts) ∙ e) }

pub covered_same : (ss : List State) → Covered ss ss
covered_same ss = record { covers = λ types w h. h }

pub all_states : (p : Program) (types : List ℕ) (e : Element) (states out : List HeldState) (k : ℕ) → length states ≤ k → Acts p types e (states_seen (take k states)) (states_seen out) → Acts p types e (states_seen states) (states_seen out)
all_states p types e states out k h a =
    subst (λ l. Acts p types e (states_seen l) (states_seen out)) (take_all k states h) a

pub all_split : (states goes ends : List HeldState) (k : ℕ) → length states ≤ k → Splits (states_seen (take k states)) (states_seen goes) (states_seen ends) → Splits (states_seen states) (states_seen goes) (states_seen ends)
all_split states goes ends k h a =
    subst (λ l. Splits (states_seen l) (states_seen goes) (states_seen ends)) (take_all k states h) a

pub all_types : (p : Program) (types ns : List ℕ) (s : State) (ts : List State) (k : ℕ) → length ns ≤ k → FollowsTypes p types (take k ns) s ts → FollowsTypes p types ns s ts
all_types p types ns s ts k h a = subst (λ l. FollowsTypes p types l s ts) (take_all k ns h) a

pub chosen_states : (p : Program) (types : List ℕ) (s : State) (c d : Code) (above upto : List State) (out more new : List HeldState) → new ≡ out ++ more → Chooses s c d above upto → Follows p types (code_body c) above (states_seen out) → Follows p types (code_body d) upto (states_seen more) → Acts p types (Called (Builtin builtin.If)) (s ∷ []) (states_seen new)
chosen_states p types s c d above upto out more new i h f g =
    subst (Acts p types (Called (Builtin builtin.If)) (s ∷ [])) (sym (both_seen out more new i))
    (acts_if p types s c d above upto (states_seen out) (states_seen more) h f g)

-- Writes, one after another.
use Rattle.std.proofs.Common.{◌≡◌, ℕ, ◌+◌, ◌<◌, List, [], ◌∷◌, ◌++◌, length, take, drop, get_or, add-one, refl, ap, sym, subst, ◌∙◌, append_assoc, append-nil, Option, None, Some, Result, Ok, Err, OnOk, OnErr, true}
use Rattle.std.specs.List.{flat_map}
use Rattle.std.proofs.lemmas.List.{take-append-drop}
use Rattle.std.proofs.Math.Seq.{drop-cons}
use Rattle.std.proofs.lemmas.Grind.{flat_map-append}
use Rattle.std.specs.Io.KnownBytes.{Appends, Keeps}
use Rattle.bt_streams.specs.Seen.{Sunk}
use Rattle.bt_streams.specs.Writes.{AppendsPart, WritesAll, Says}

-- One write after another.
pub appends_more : (a b c : Option (List ℕ)) (xs ys : List ℕ) → Appends a b xs → Appends b c ys → Appends a c (xs ++ ys)
appends_more None b c xs ys p q = tt
appends_more (Some u) None c xs ys p q = absurd p
appends_more (Some u) (Some v) None xs ys p q = absurd q
appends_more (Some u) (Some v) (Some w) xs ys p q = q ∙ ap (λ t. t ++ ys) p ∙ append_assoc u xs ys

appends_kept : (a b : Option (List ℕ)) → Keeps a b → Appends a b []
appends_kept None b p = tt
appends_kept (Some u) None p = absurd p
appends_kept (Some u) (Some v) p = p ∙ sym (append-nil u)

-- A write that failed, after others.
pub part_behind : (a b c : Option (List ℕ)) (xs ys more whole : List ℕ) → whole ≡ xs ++ (ys ++ more) → Appends a b xs → AppendsPart b c ys → AppendsPart a c whole
part_behind a b c xs ys more whole e p q =
    (xs ++ q.0, q.1 ++ more, e ∙ ap (λ t. xs ++ (t ++ more)) q.2 ∙ ap (λ t. xs ++ t) (append_assoc q.0 q.1 more) ∙ sym (append_assoc xs q.0 (q.1 ++ more)), appends_more a b c xs q.0 p q.3)

pub part_kept : (a b c : Option (List ℕ)) (xs more whole : List ℕ) → whole ≡ xs ++ more → Appends a b xs → Keeps b c → AppendsPart a c whole
part_kept a b c xs more whole e p q = part_behind a b c xs [] more whole e p ([], [], refl, appends_kept b c q)

appended : (a b c : Option (List ℕ)) (xs : List ℕ) → Appends a b xs → Keeps b c → Appends a c xs
appended a b c xs p q = subst (Appends a c) (append-nil xs) (appends_more a b c xs [] p (appends_kept b c q))

-- Bytes that were written are handed on, or that fails.
pub handed_on : {T E : Type 0} (old mid new : Sunk) (bytes : List ℕ) (result : Result T E) → WritesAll old mid bytes → Keeps mid.contents new.contents →
    OnOk result (new.is_flushed ≡ true) → OnOk result (new.failures ≡ mid.failures) → OnErr result (new.failures ≡ mid.failures + 1) → Says old new bytes result
handed_on old mid new bytes (Ok x) (all, same) keeps flushed ok err = ((appended _ _ _ bytes all keeps, ok ∙ same), flushed)
handed_on old mid new bytes (Err e) (all, same) keeps flushed ok err = (part_kept _ _ _ bytes [] bytes (sym (append-nil bytes)) all keeps, err ∙ ap (λ n. n + 1) same)

-- A fact that holds anyway.
pub on_err_any : {T E P : Type 0} → (r : Result T E) → P → OnErr r P
on_err_any (Ok x) p = tt
on_err_any (Err e) p = p

-- The pieces before one, that one, and those after it.
pub flat_map_at : {X : Type 0} (f : X → List ℕ) (xs : List X) (i : ℕ) (d : X) → i < length xs →
    flat_map f xs ≡ flat_map f (take i xs) ++ (f (get_or xs i d) ++ flat_map f (drop (i + 1) xs))
flat_map_at f xs i d h =
    let e : drop i xs ≡ get_or xs i d ∷ drop (i + 1) xs = rw add-one (drop-cons xs i d h) in
    sym (ap (flat_map f) (take-append-drop i xs)) ∙ flat_map-append f (take i xs) (drop i xs) ∙
    ap (λ t. flat_map f (take i xs) ++ flat_map f t) e

-- A write that took nothing.
pub keeps_none : (a b : Option (List ℕ)) → Appends a b [] → Keeps a b
keeps_none None b p = tt
keeps_none (Some u) None p = absurd p
keeps_none (Some u) (Some v) p = p ∙ append-nil u

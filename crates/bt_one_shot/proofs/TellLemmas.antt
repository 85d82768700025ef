-- What is reported on a sink, one text after another.
use Rattle.std.proofs.Common.{◌≡◌, inl, inr, ℕ, ◌+◌, List, [], ◌++◌, append_assoc, append-nil, ap, sym, ◌∙◌, subst, refl, arith, Option, None, Some, Result, Ok, Err}
use Rattle.std.specs.Io.KnownBytes.{Appends}
use Rattle.bt_streams.specs.Writes.{WritesAll, WritesPart, Says}
use Rattle.bt_streams.proofs.WriteLemmas.{appends_more, part_behind}
use Rattle.bt_streams.specs.Seen.{Sunk}
use Rattle.bt_one_shot.specs.Sinks.{Tells}
use Rattle.bt_one_shot.specs.inner.Sinks.{GoesOn}

-- What a sink that wasn't written to again has is a beginning of more, too.
pub not_again : (first old : Sunk) (text more : List ℕ) → Tells first old text → (old.failures ≡ first.failures → ⊥) → Tells first old (text ++ more)
not_again first old text more (inl ((all, same), kept)) failed = absurd (failed same)
not_again first old text more (inr ((part, rest, is, has), once)) failed =
    inr ((part, rest ++ more, ap (λ t. t ++ more) is ∙ append_assoc part rest more, has), once)

-- A text that was said after one that was reported.
pub said : {T E : Type 0} (first old new : Sunk) (text more : List ℕ) (result : Result T E) → Tells first old text → old.failures ≡ first.failures →
    Says old new more result → Tells first new (text ++ more)
said first old new text more result (inr (part, once)) good says = absurd (omega arith)
said first old new text more (Ok x) (inl ((all, same), kept)) good ((appends, ok), flushed) = inl ((appends_more _ _ _ text more all appends, ok ∙ same), λ before. flushed)
said first old new text more (Err e) (inl ((all, same), kept)) good (part, err) =
    inr (part_behind first.contents old.contents new.contents text more [] (text ++ more) (ap (λ t. text ++ t) (sym (append-nil more))) all part, err ∙ ap (λ n. n + 1) same)

appends_nothing : (a : Option (List ℕ)) → Appends a a []
appends_nothing None = tt
appends_nothing (Some u) = sym (append-nil u)

-- Nothing is reported.
pub tells_nothing : (sink : Sunk) → Tells sink sink []
tells_nothing sink = inl ((appends_nothing sink.contents, refl), λ before. before)

pub goes_on_none : (failures_before : ℕ) (old : Sunk) → GoesOn failures_before old old []
goes_on_none failures_before old = λ first text is told. subst (Tells first old) (sym (append-nil text)) told

pub goes_on_more : (failures_before : ℕ) (a b c : Sunk) (s t : List ℕ) → GoesOn failures_before a b s → GoesOn failures_before b c t → GoesOn failures_before a c (s ++ t)
goes_on_more failures_before a b c s t p q = λ first text is told. subst (Tells first c) (append_assoc text s t) (q first (text ++ s) is (p first text is told))

-- A text that was said, and nothing else.
pub printed : {T E : Type 0} (old new : Sunk) (text : List ℕ) (result : Result T E) → Says old new (text ++ []) result → Tells old new text
printed old new text (Ok x) (all, flushed) = inl (subst (WritesAll old new) (append-nil text) all, λ before. flushed)
printed old new text (Err e) part = inr (subst (WritesPart old new) (append-nil text) part)

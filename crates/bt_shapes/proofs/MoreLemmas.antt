-- One element more of a list that a loop builds.
use Rattle.std.proofs.Common.{◌≡◌, ◌∙◌, ap, sym, refl, ℕ, suc, ◌+◌, ◌<◌, List, [], ◌∷◌, ◌++◌, length, map, drop, get_or, append_assoc, drop-cons, arith, Option, Some, None}
use Rattle.std.specs.Prelude.{filter_map}
use Rattle.std.specs.List.{cons_option, fold}
use Rattle.serde_json.specs.Data.{Data}

pub next_drop : {A : Type 0} (xs : List A) (i : ℕ) (x : A) → i < length xs → x ≡ get_or xs i x → drop i xs ≡ x ∷ drop (i + 1) xs
next_drop xs i x l is =
    let next : suc i ≡ i + 1 = omega arith in
    drop-cons xs i x l ∙ ap (λ y. y ∷ drop (suc i) xs) (sym is) ∙ ap (λ n. x ∷ drop n xs) next

map_more : {C : Type 0} (show : C → Data) (old : List C) (v : C) → map show (old ++ v ∷ []) ≡ map show old ++ show v ∷ []
map_more show [] v = refl
map_more show (c ∷ old) v = ap (λ l. show c ∷ l) (map_more show old v)

-- of a list that is mapped
pub mapped_more : {A C : Type 0} (show : C → Data) (f : A → Data) (xs : List A) (i : ℕ) (x : A) (old new : List C) (v : C) (whole : List Data) → i < length xs → x ≡ get_or xs i x →
    new ≡ old ++ v ∷ [] → show v ≡ f x → map show old ++ map f (drop i xs) ≡ whole → map show new ++ map f (drop (i + 1) xs) ≡ whole
mapped_more show f xs i x old new v whole l is more shows before =
    ap (λ n. map show n ++ map f (drop (i + 1) xs)) more ∙
    ap (λ m. m ++ map f (drop (i + 1) xs)) (map_more show old v) ∙
    append_assoc (map show old) (show v ∷ []) (map f (drop (i + 1) xs)) ∙
    ap (λ d. map show old ++ d ∷ map f (drop (i + 1) xs)) shows ∙
    ap (λ t. map show old ++ map f t) (sym (next_drop xs i x l is)) ∙ before

joined : (o : Option Data) (rest : List Data) → cons_option o [] ++ rest ≡ cons_option o rest
joined None rest = refl
joined (Some d) rest = refl

-- of a list that is filtered and mapped
pub filtered_more : {A : Type 0} (f : A → Option Data) (xs : List A) (i : ℕ) (x : A) (old new whole : List Data) → i < length xs → x ≡ get_or xs i x →
    new ≡ old ++ cons_option (f x) [] → old ++ filter_map f (drop i xs) ≡ whole → new ++ filter_map f (drop (i + 1) xs) ≡ whole
filtered_more f xs i x old new whole l is more before =
    ap (λ n. n ++ filter_map f (drop (i + 1) xs)) more ∙
    append_assoc old (cons_option (f x) []) (filter_map f (drop (i + 1) xs)) ∙
    ap (λ t. old ++ t) (joined (f x) (filter_map f (drop (i + 1) xs))) ∙
    ap (λ t. old ++ filter_map f t) (sym (next_drop xs i x l is)) ∙ before

-- of a fold
pub fold_more : {A B : Type 0} (f : B → A → B) (xs : List A) (i : ℕ) (x : A) (old new whole : B) → i < length xs → x ≡ get_or xs i x → new ≡ f old x →
    fold f old (drop i xs) ≡ whole → fold f new (drop (i + 1) xs) ≡ whole
fold_more f xs i x old new whole l is more before =
    ap (λ n. fold f n (drop (i + 1) xs)) more ∙ ap (λ t. fold f old t) (sym (next_drop xs i x l is)) ∙ before

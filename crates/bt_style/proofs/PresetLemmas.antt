-- The names that are there before the first command are free when they are declared.
use Rattle.std.proofs.Common.{◌≡◌, ap, codes, None, refl, ◌∙◌}
use Rattle.bt_style.specs.declared.names.Names.TheVariants.{Fields, EntryTexts, GlobalNumbers}
use Rattle.bt_style.specs.Builtins.{table}
use Rattle.bt_style.specs.Program.{Program}
use Rattle.bt_style.specs.Names.{target_named, builtin_named}
use Rattle.bt_style.specs.Draft.{with_name}
use Rattle.bt_style.specs.inner.Cases.{bare}

free_first : target_named bare (codes "crossref") ≡ None
unfolding target_named builtin_named table
free_first = refl

pub free_crossref : (p : Program) → p ≡ bare → target_named p (codes "crossref") ≡ None
free_crossref p is = ap (λ (q : Program). target_named q (codes "crossref")) is ∙ free_first

free_second : target_named (with_name Fields (codes "crossref") bare) (codes "sort.key$") ≡ None
unfolding target_named builtin_named table
free_second = refl

pub free_sort_key : (p q : Program) → p ≡ bare → q ≡ with_name Fields (codes "crossref") p → target_named q (codes "sort.key$") ≡ None
free_sort_key p q is next = rw (next, is) free_second

free_third : target_named (with_name EntryTexts (codes "sort.key$") (with_name Fields (codes "crossref") bare)) (codes "entry.max$") ≡ None
unfolding target_named builtin_named table
free_third = refl

pub free_entry_max : (p q r : Program) → p ≡ bare → q ≡ with_name Fields (codes "crossref") p → r ≡ with_name EntryTexts (codes "sort.key$") q → target_named r (codes "entry.max$") ≡ None
free_entry_max p q r is next then = rw (then, next, is) free_third

free_fourth : target_named (with_name GlobalNumbers (codes "entry.max$") (with_name EntryTexts (codes "sort.key$") (with_name Fields (codes "crossref") bare))) (codes "global.max$") ≡ None
unfolding target_named builtin_named table
free_fourth = refl

pub free_global_max : (p q r s : Program) → p ≡ bare → q ≡ with_name Fields (codes "crossref") p → r ≡ with_name EntryTexts (codes "sort.key$") q →
    s ≡ with_name GlobalNumbers (codes "entry.max$") r → target_named s (codes "global.max$") ≡ None
free_global_max p q r s is next then last = rw (last, then, next, is) free_fourth

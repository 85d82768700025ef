-- How a run ends.
use Rattle.std.proofs.Common.{◌≡◌, ◌∙◌, ap, refl, subst, inl, inr, ◌+◌, ℕ, Bool, true, false, List, [], ◌∷◌, ◌++◌, map, codes, Option, None, Some}
use Rattle.std.specs.Prelude.{bytes_eq, if◌then◌else◌}
use Rattle.bibtex.specs.declared.state.State.{State}
use Rattle.bibtex.specs.Present.{no_texts, shown}
use Rattle.bt_one_shot.specs.Folders.{Contents, Written, Seen, Holds, HoldsBut, Writes, Fails, WritesOne}
use Rattle.bt_streams.specs.Seen.{Sunk}
use Rattle.bt_one_shot.specs.Sinks.{Tells}
use Rattle.bt_one_shot.specs.JobFiles.{name_of, after_files, refusal_lines}
use Rattle.bt_one_shot.specs.Shots.{exit_of, blg_file, unwritten_line, printed_log, Ends, Runs, Stops}
use Rattle.bt_one_shot.specs.inner.Progress.{LoadsAll, LoadsSome}
use Rattle.bt_one_shot.proofs.TellLemmas.{tells_nothing}
use Rattle.bt_one_shot.proofs.LoadLemmas.{gains_more}

-- What is held after one file after another

held_both : (a b c : Option Contents) (f g : Written) → Holds a b (f ∷ []) → Holds b c (g ∷ []) → Holds a c (f ∷ g ∷ [])
held_both None b c f g p q = tt
held_both (Some u) None c f g p q = absurd p
held_both (Some u) (Some v) None f g p q = absurd q
held_both (Some u) (Some v) (Some w) f g p q = λ name. q name ∙ ap (λ o. if bytes_eq g.name name then Some g.bytes else o) (p name)

held_but : (a b c : Option Contents) (f : Written) (spoiled : List ℕ) → Holds a b (f ∷ []) → HoldsBut spoiled b c [] → HoldsBut spoiled a c (f ∷ [])
held_but None b c f spoiled p q = tt
held_but (Some u) None c f spoiled p q = absurd p
held_but (Some u) (Some v) None f spoiled p q = absurd q
held_but (Some u) (Some v) (Some w) f spoiled p q = λ name other. q name other ∙ p name

writes_both : (a b c : Seen) (f g : Written) → Writes a b (f ∷ []) → Writes b c (g ∷ []) → Writes a c (f ∷ g ∷ [])
writes_both a b c f g p q =
    record {
      held = held_both a.held b.held c.held f g p.held q.held;
      looked_up = q.looked_up ∙ p.looked_up;
      written = gains_more a.written b.written c.written (f ∷ []) (g ∷ []) p.written q.written;
      failures = q.failures ∙ p.failures;
      reads = q.reads ∙ p.reads;
    }

fails_behind : (a b c : Seen) (f : Written) (name : List ℕ) → Writes a b (f ∷ []) → Fails b c [] name → Fails a c (f ∷ []) name
fails_behind a b c f name p q =
    record {
      held = held_but a.held b.held c.held f name p.held q.held;
      looked_up = q.looked_up ∙ p.looked_up;
      written = gains_more a.written b.written c.written (f ∷ []) [] p.written q.written;
      failures = q.failures ∙ ap (λ n. n + 1) p.failures;
      reads = q.reads ∙ p.reads;
    }

-- Ends

-- a file by its name and its bytes
abbrev pub file_of : List ℕ → List ℕ → Written
file_of name bytes = record { name = name; bytes = bytes }

file_is : (n m b d : List ℕ) → n ≡ m → b ≡ d → file_of n b ≡ file_of m d
file_is n m b d p q = rw (p, q) refl

-- The bibliography can't be written.
pub ends_at_bbl : (s : State) (log : List ℕ) (a b : Seen) (out : Sunk) (IsTold : List ℕ → Type 0) (name bytes : List ℕ) →
    name ≡ s.root ++ codes ".bbl" → WritesOne a b (file_of name bytes) false → IsTold (unwritten_line name) → Ends s log a b out out IsTold 3
ends_at_bbl s log a b out IsTold name bytes is fails told =
    inr (inl (record { fails = subst (λ n. Fails a b [] n) is fails; unprinted = refl; tells = subst (λ n. IsTold (unwritten_line n)) is told; is_exit = refl }))

-- The log can't be written after it.
pub ends_at_blg : (s : State) (log : List ℕ) (a b c : Seen) (out : Sunk) (IsTold : List ℕ → Type 0) (name bytes other more : List ℕ) →
    name ≡ s.root ++ codes ".bbl" → bytes ≡ (shown s).bbl → other ≡ s.root ++ codes ".blg" →
    WritesOne a b (file_of name bytes) true → WritesOne b c (file_of other more) false → IsTold (unwritten_line other) → Ends s log a c out out IsTold 3
ends_at_blg s log a b c out IsTold name bytes other more is are is_other writes fails told =
    inr (inr (record {
      fails = subst (λ f. Fails a c (f ∷ []) (blg_file s).name) (file_is name _ bytes _ is are)
          (subst (λ n. Fails a c (file_of name bytes ∷ []) n) is_other (fails_behind a b c (file_of name bytes) other writes fails));
      unprinted = refl;
      tells = subst (λ n. IsTold (unwritten_line n)) is_other told;
      is_exit = refl;
    }))

-- Both are written.
pub ends_well : (s : State) (log : List ℕ) (a b c : Seen) (out out' : Sunk) (IsTold : List ℕ → Type 0) (name bytes other more : List ℕ) (exit : ℕ) →
    name ≡ s.root ++ codes ".bbl" → bytes ≡ (shown s).bbl → other ≡ s.root ++ codes ".blg" → more ≡ (shown s).blg →
    WritesOne a b (file_of name bytes) true → WritesOne b c (file_of other more) true → Tells out out' log → IsTold [] → exit ≡ exit_of (shown s).status →
    Ends s log a c out out' IsTold exit
ends_well s log a b c out out' IsTold name bytes other more exit is are is_other are_more first second prints quiet is_exit =
    inl (record {
      writes = subst (λ f. Writes a c (f ∷ blg_file s ∷ [])) (file_is name _ bytes _ is are)
          (subst (λ g. Writes a c (file_of name bytes ∷ g ∷ [])) (file_is other _ more _ is_other are_more) (writes_both a b c (file_of name bytes) (file_of other more) first second));
      prints = prints;
      quiet = quiet;
      is_exit = is_exit;
    })

-- Whole runs

-- Some files were looked up.
pub stops_after : (root given : List ℕ) (min failures_before : ℕ) (a b : Seen) (out err err' : Sunk) →
    given ≡ root → err.failures ≡ failures_before → LoadsSome failures_before given min a b err err' → Stops root min a b out out err err'
stops_after root given min failures_before a b out err err' is few loads =
    subst (λ r. Stops r min a b out out err err') is
    (record {
      files = loads.goes.files;
      loads = record { in_order = loads.goes.in_order; looked_up = loads.goes.looked_up };
      unprinted = refl;
      tells = loads.goes.tells err [] few (tells_nothing err);
    })

-- All were, and the run ends.
pub runs_after : (root given : List ℕ) (min failures_before : ℕ) (terse : Bool) (session : State) (a b c : Seen) (out out' err err' err'' : Sunk) (log : List ℕ) (exit : ℕ) →
    given ≡ root → err.failures ≡ failures_before → log ≡ printed_log terse session → LoadsAll failures_before given min session a b err err' →
    ((first : Sunk) (text : List ℕ) → first.failures ≡ failures_before → Tells first err' text → Ends session log b c out out' (λ more. Tells first err'' (text ++ more)) exit) →
    Runs root min terse a c out out' err err'' exit
runs_after root given min failures_before terse session a b c out out' err err' err'' log exit is few is_log loads ends =
    subst (λ r. Runs r min terse a c out out' err err'' exit) is
    (record {
      files = loads.goes.files;
      between = b;
      loads = record { in_order = loads.goes.in_order; looked_up = loads.goes.looked_up };
      are_all = rw (← is_loaded, ← are_met) loads.end;
      ends = subst (λ u. Ends u (printed_log terse u) b c out out' (λ more. Tells err err'' (refusal_lines (no_texts given min) loads.goes.files ++ more)) exit) is_loaded
          (subst (λ l. Ends session l b c out out' (λ more. Tells err err'' (refusal_lines (no_texts given min) loads.goes.files ++ more)) exit) is_log
          (ends err (refusal_lines (no_texts given min) loads.goes.files) few (loads.goes.tells err [] few (tells_nothing err))));
    })
  where
    is_loaded : session ≡ after_files (no_texts given min) loads.goes.files
    is_loaded = loads.goes.is_after

    are_met : loads.met ≡ map name_of loads.goes.files
    are_met = loads.goes.are_met

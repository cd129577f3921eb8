-- What is found by the fates is what is so.
use Rattle.std.specs.Prelude.{◌↔◌, IsTrue}
use Rattle.std.proofs.Common.{◌≡◌, ◌∙◌, ℕ, ◌<◌, ◌⊎◌, inl, inr, true, false, List, [], length, Some, sym, subst, ap, get_or, Vec, Global}
use Rattle.std.proofs.lemmas.{List.get_or-map, Option.same_Some}
use Rattle.guest_code.specs.{Program.{Program, code_of}, declared.program.Instruction.Instruction}
use Rattle.guest_code.specs.declared.program.Instruction.TheVariants.{Skip}
use Rattle.explain_run.specs.declared.explanation.Explanation.{Explanation}
use Rattle.explain_waits.specs.Endings.{ChangesBefore, HasAhead, blocked_of, writes_one}
use Rattle.explain_waits.specs.Fates.{Fates, HasFate, is_to_come, locals_of, place_of}
use Rattle.explain_waits.specs.{Graph.WaitsFor, Looks.IsLookOf, Waiting.AllFates}
use Rattle.explain_waits.specs.declared.{ending.Blocked.Blocked, fate.Fate.Fate}
use Rattle.explain_waits.specs.declared.{fate.Fate.TheVariants.OutOfReach, look.Look.Look}
use Rattle.explain_waits.specs.inner.Rows.{FindsAhead, FindsEdge, FindsHelp, lists}
use Rattle.explain_waits.proofs.{LooksOnce.looks_alike, TakenSteps.{is_ahead, to_come}}

ahead_is : (p : Program) (told : Explanation) (fates : List Fate) (u i : ℕ) (fate : Fate)
    → Fates p told u fates → i < length (code_of p u) → HasFate p told u i fate
    → is_to_come fate ≡ true → is_to_come (get_or fates i OutOfReach) ≡ true
ahead_is p told fates u i fate all h has comes =
    to_come (code_of p u) (place_of told u) (locals_of told u) told.steps.items u i
    (length told.steps.items) (get_or fates i OutOfReach) fate (all.each i h) has comes

help_there : (p : Program) (told : Explanation) (fates : List Fate) (look : Look) (u i : ℕ)
    → Fates p told u fates → FindsHelp (code_of p u) fates look i
    → (look.sleeps ≡ false) ⊎ ChangesBefore p told look u i
help_there p told fates look u i all (inl goes) = inl goes
help_there p told fates look u i all (inr found) = inr (record {
  at = found.at;
  before = found.before;
  within = found.within;
  fate = get_or fates found.at OutOfReach;
  has = all.each found.at found.within;
  comes = found.comes;
  writes = found.writes;
})

help_found : (p : Program) (told : Explanation) (fates : List Fate) (look : Look) (u i : ℕ)
    → Fates p told u fates → (look.sleeps ≡ false) ⊎ ChangesBefore p told look u i
    → FindsHelp (code_of p u) fates look i
help_found p told fates look u i all (inl goes) = inl goes
help_found p told fates look u i all (inr there) = inr (record {
  at = there.at;
  before = there.before;
  within = there.within;
  comes = ahead_is p told fates u there.at there.fate all there.within there.has there.comes;
  writes = there.writes;
})

ahead_there : (p : Program) (told : Explanation) (fates : List Fate) (b : Blocked) (look : Look)
    (u : ℕ) → Fates p told u fates → FindsAhead (code_of p u) fates b look u
    → HasAhead p told b look u
ahead_there p told fates b look u all found = record {
  at = found.at;
  within = found.within;
  could = found.could;
  ahead = let P : Fate → Type 0 = λ fate. HasFate p told u found.at fate in
      subst P found.ahead (all.each found.at found.within);
  helps = help_there p told fates look u found.at all found.helps;
}

ahead_found : (p : Program) (told : Explanation) (fates : List Fate) (b : Blocked) (look : Look)
    (u : ℕ) → Fates p told u fates → HasAhead p told b look u
    → FindsAhead (code_of p u) fates b look u
ahead_found p told fates b look u all there = record {
  at = there.at;
  within = there.within;
  could = there.could;
  ahead = is_ahead (code_of p u) (place_of told u) (locals_of told u) told.steps.items u there.at
      (length told.steps.items) (get_or fates there.at OutOfReach)
      (all.each there.at there.within) there.ahead;
  helps = help_found p told fates look u there.at all there.helps;
}

-- what is found of one look is so of another one that looks alike
same_help : (code : List Instruction) (fates : List Fate) (one other : Look) (i : ℕ)
    → one.sleeps ≡ other.sleeps → one.variables.items ≡ other.variables.items
    → FindsHelp code fates one i → FindsHelp code fates other i
same_help code fates one other i sleeps same (inl goes) = inl (sym sleeps ∙ goes)
same_help code fates one other i sleeps same (inr found) = inr (record {
  at = found.at;
  before = found.before;
  within = found.within;
  comes = found.comes;
  writes = let P : List ℕ → Type 0 = λ xs.
      IsTrue (writes_one xs (get_or code found.at (Skip 0))) in subst P same found.writes;
})

same_ahead : (code : List Instruction) (fates : List Fate) (b : Blocked) (one other : Look) (u : ℕ)
    → one.sleeps ≡ other.sleeps → one.variables.items ≡ other.variables.items
    → FindsAhead code fates b one u → FindsAhead code fates b other u
same_ahead code fates b one other u sleeps same found = record {
  at = found.at;
  within = found.within;
  could = found.could;
  ahead = found.ahead;
  helps = same_help code fates one other found.at sleeps same found.helps;
}

-- the edges of a blocked thread
pub edges_found : (p : Program) (told : Explanation) (fates : List (List Fate)) (t u : ℕ)
    (b : Blocked) (look : Look) → AllFates p told fates → t < length p.threads
    → blocked_of told t ≡ Some b → IsLookOf p told b look
    → ((u < length p.threads) × FindsEdge (code_of p u) (get_or fates u []) b look u)
    ↔ WaitsFor p told t u
edges_found p told fates t u b look all thread is seen = (
  λ found. record {
    thread = thread;
    other = found.0;
    blocked = b;
    is = is;
    look = look;
    seen = seen;
    ends = elim found.1 [
      | inl owner ↦ inl owner
      | inr ahead ↦ inr (ahead_there p told (get_or fates u []) b look u (all u found.0) ahead)
    ];
  },
  λ waits. (
    waits.other,
    let same : waits.blocked ≡ b = same_Some waits.blocked b (sym waits.is ∙ is) in
        let P : Blocked → Type 0 = λ b. (b.owner ≡ Some u) ⊎ HasAhead p told b waits.look u in
        let Q : Blocked → Type 0 = λ b. IsLookOf p told b waits.look in
        let alike = looks_alike p told b waits.look look (subst Q same waits.seen) seen in
        elim (subst P same waits.ends) [
          | inl owner ↦ inl owner
          | inr ahead ↦ inr (same_ahead (code_of p u) (get_or fates u []) b waits.look look u
              alike.0 alike.1
              (ahead_found p told (get_or fates u []) b waits.look u (all u waits.other) ahead))
        ],
  ),
)

-- the list of a thread among all
pub list_at : (all : List (Vec Fate Global)) (n : ℕ) (v : Vec Fate Global) → n < length all
    → v ≡ get_or all n v → get_or (lists all) n [] ≡ v.items
list_at all n v h e = get_or-map (λ (v : Vec Fate Global). v.items) all n v [] h
    ∙ sym (ap (λ (v : Vec Fate Global). v.items) e)

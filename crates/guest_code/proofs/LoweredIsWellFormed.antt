-- The program of a tree without a fault is well formed.
use Rattle.std.proofs.Common.{◌≡◌, ℕ, ◌+◌, ◌<◌, ◌≤◌, Bool, true, false, ltb, List, [], ◌∷◌, ◌++◌, length, map, Some, None, Ok, Err, refl, sym, ap, subst, ◌∙◌, arith, if◌then◌else◌}
use Rattle.std.{specs.List.All, specs.Option.option_or, proofs.lemmas.Bool.ltb-false}
use Rattle.std.proofs.lemmas.List.{length-map, Elements.{All-cons, All-nil}}
use Rattle.guest_syntax.specs.Tree.{Declaration, Thread, Tree}
use Rattle.guest_code.specs.Code.{Names, object_index, objects_by, variable_of, mutex_of, condition_of, semaphore_of, thread_code, code}
use Rattle.guest_code.specs.Fault.{limit_of, declares_refusal, first, no_threads, too_long, fault}
use Rattle.guest_code.specs.Program.{Program, IsValidCode, LocalsBelow, JumpsWithin, IsWellFormed}
use Rattle.guest_code.specs.Sizes.{block_size}
use Rattle.guest_code.specs.Uses.{Use, same, block_uses, thread_uses, declarations_uses, threads_uses, uses, kind_in, how_many, thread_locals}
use Rattle.guest_code.specs.declared.kinds.NameKind.{NameKind}
use Rattle.guest_code.specs.declared.limits.TheConstants.{LOCALS, INSTRUCTIONS, COUNT}
use Rattle.guest_code.specs.inner.Walk.{Checked, walk, fault_of}
use Rattle.guest_code.proofs.BodiesDeclareNothing.{block_declares_nothing}
use Rattle.guest_code.proofs.{CheckIsFault.first_append, CodeLengths.block_length}
use Rattle.guest_code.proofs.DeclarationCounts.{or_none, few, many_append, object_index-less, many_variables, many_mutexes, many_conditions, many_semaphores}
use Rattle.guest_code.proofs.IndexesInRange.{NamesInRange, walk_right, walk_few, block_in_range}
use Rattle.guest_code.proofs.JumpsWithin.{jumps_within}
use Rattle.guest_code.proofs.UsesOneByOne.{many_none, many_threads, one_thread, body_leaves}
use Rattle.guest_code.specs.declared.kinds.NameKind.TheVariants as kinds
use Rattle.guest_code.specs.declared.error.CheckError.TheVariants as errors
use Rattle.guest_code.specs.Program as program

-- ---- one thread

-- the locals of a thread whose names are right
checked_is : (all : List Use) (t : Thread) (r : Checked)
    → walk all [] (block_uses false t.body) ≡ r → fault_of r ≡ None
    → walk all [] (block_uses false t.body) ≡ Ok (thread_locals t)
checked_is all t (Ok ns) e f = rw (← body_leaves all t ns e) e
checked_is all t (Err d) e f = absurd cc

short : (k : ℕ) (t : Thread) (ts : List Thread) (b : Bool)
    → ltb INSTRUCTIONS (block_size t.body) ≡ b
    → (if b then Some (errors.CodeTooLong k) else too_long (k + 1) ts) ≡ None
    → (block_size t.body ≤ INSTRUCTIONS) × (too_long (k + 1) ts ≡ None)
short k t ts true e h = absurd cc
short k t ts false e h = (omega (arith, ltb-false INSTRUCTIONS (block_size t.body) e), h)

-- what the numbers of objects need
pub record ObjectsInRange (p : Program) (ds : List Declaration) (all : List Use) : Type 0 where
  pub variable : (name : List ℕ) → kind_in all name ≡ Some kinds.Variable
      → object_index kinds.Variable ds name < length p.variables
  pub mutex : (name : List ℕ) → kind_in all name ≡ Some kinds.Mutex
      → object_index kinds.Mutex ds name < length p.mutexes
  pub condition : (name : List ℕ) → kind_in all name ≡ Some kinds.Condition
      → object_index kinds.Condition ds name < length p.conditions
  pub semaphore : (name : List ℕ) → kind_in all name ≡ Some kinds.Semaphore
      → object_index kinds.Semaphore ds name < length p.semaphores

-- what a program says of a thread
record IsRight (p : Program) (t : program.Thread) : Type 0 where
  pub valid : IsValidCode p t.code
  pub few : t.locals ≤ LOCALS
  pub own : All (LocalsBelow t.locals) t.code
  pub jumps : JumpsWithin t.code

thread_is_right : (p : Program) (ds : List Declaration) (all : List Use)
    (g : ObjectsInRange p ds all) (t : Thread) → fault_of (walk all [] (block_uses false t.body))
    ≡ None → block_size t.body ≤ INSTRUCTIONS → IsRight p (thread_code ds t)
thread_is_right p ds all g t right le =
    let names : Names = record { declarations = ds; locals = thread_locals t } in
    let checked = checked_is all t (walk all [] (block_uses false t.body)) refl right in
    let nothing = block_declares_nothing false t.body in
    let few = walk_few all (block_uses false t.body) [] (thread_locals t) nothing checked
    (omega arith) in
    let in_range : NamesInRange p names all = record {
      locals = few;
      variable = g.variable;
      mutex = g.mutex;
      condition = g.condition;
      semaphore = g.semaphore;
    } in
    let code = block_in_range p names all in_range false t.body 0
    (walk_right all (block_uses false t.body) [] (thread_locals t) nothing checked) in
    record {
      valid = record {
        short = omega (arith, block_length names t.body 0, le);
        fine = λ k d lt.
            (code k d lt).0;
      };
      few = few;
      own = λ k d lt. (code k d lt).1;
      jumps = jumps_within names t.body;
    }

-- ---- all threads

threads_are_right : (p : Program) (ds : List Declaration) (all : List Use)
    (g : ObjectsInRange p ds all) (before : List Use) (k : ℕ) (ts : List Thread)
    → first all before (threads_uses ts) ≡ None → too_long k ts ≡ None
    → All (IsRight p) (map (thread_code ds) ts)
threads_are_right p ds all g before k [] e long = All-nil (IsRight p)
threads_are_right p ds all g before k (t ∷ ts) e long =
    let parts = or_none (declares_refusal kinds.Thread t.name (kind_in before t.name.text)
    (how_many kinds.Thread before))
    (option_or (fault_of (walk all [] (block_uses false t.body)))
    (first all (before ++ thread_uses t) (threads_uses ts)))
    (sym (one_thread all before t (threads_uses ts)) ∙ e) in
    let rest = or_none (fault_of (walk all [] (block_uses false t.body)))
    (first all (before ++ thread_uses t) (threads_uses ts)) parts.1 in
    let lengths = short k t ts (ltb INSTRUCTIONS (block_size t.body)) refl long in
    All-cons (IsRight p) (thread_code ds t) (map (thread_code ds) ts)
    (thread_is_right p ds all g t rest.0 lengths.0)
    (threads_are_right p ds all g (before ++ thread_uses t) (k + 1) ts rest.1 lengths.1)

-- ---- the program

some_threads : (ts : List Thread) → no_threads ts ≡ None → 0 < length ts
some_threads [] e = absurd cc
some_threads (t ∷ ts) e = omega arith

declared : (ds : List Declaration) (ts : List Thread) (k : NameKind)
    → first (uses ds ts) [] (uses ds ts) ≡ None → how_many k (declarations_uses ds) ≤ limit_of k
declared ds ts k e = omega (
  arith,
  few (uses ds ts) [] (uses ds ts) k e (omega arith),
  many_append
      k (declarations_uses ds) (threads_uses ts),
)

in_range : (k : NameKind) (ds : List Declaration) (ts : List Thread) (n : ℕ)
    → same kinds.Thread k ≡ false → n ≡ how_many k (declarations_uses ds) → (name : List ℕ)
    → kind_in (uses ds ts) name ≡ Some k → object_index k ds name < n
in_range k ds ts n other is name e = omega (arith, object_index-less k ds ts name other e, is)

pub well_formed : (t : Tree) → fault t ≡ None → All (λ (s : program.Semaphore). s.count ≤ COUNT)
    (code t).semaphores → IsWellFormed (code t)
well_formed t e counts =
    let ds = t.declarations in
    let ts = t.threads in
    let names = or_none (first (uses ds ts) [] (uses ds ts))
    (option_or (no_threads ts) (too_long 0 ts)) e in
    let rest = or_none (no_threads ts) (too_long 0 ts) names.1 in
    let split = or_none (first (uses ds ts) [] (declarations_uses ds))
    (first (uses ds ts) (declarations_uses ds) (threads_uses ts))
    (sym (first_append (uses ds ts) [] (declarations_uses ds) (threads_uses ts)) ∙ names.0) in
    let g : ObjectsInRange (code t) ds (uses ds ts) = record {
      variable = in_range kinds.Variable ds ts (length (code t).variables) refl (many_variables ds);
      mutex = in_range kinds.Mutex ds ts (length (code t).mutexes) refl (many_mutexes ds);
      condition = in_range kinds.Condition ds ts (length (code t).conditions) refl
          (many_conditions ds);
      semaphore = in_range kinds.Semaphore ds ts (length (code t).semaphores) refl
          (many_semaphores ds);
    } in
    let right = threads_are_right (code t) ds (uses ds ts) g (declarations_uses ds) 0 ts split.1
    rest.1 in
    let many : how_many kinds.Thread (uses ds ts) ≡ length ts = many_none ds (threads_uses ts)
    ∙ many_threads ts in
    let as_many : length (code t).threads ≡ length ts = length-map ts (thread_code ds) in
    record {
      some_thread = omega (arith, some_threads ts rest.0, as_many);
      threads = omega (
        arith,
        few (uses ds ts) [] (uses ds ts) kinds.Thread names.0 (omega arith),
        many,
        as_many,
      );
      variables = omega (arith, many_variables ds, declared ds ts kinds.Variable names.0);
      mutexes = omega (arith, many_mutexes ds, declared ds ts kinds.Mutex names.0);
      conditions = omega (arith, many_conditions ds, declared ds ts kinds.Condition names.0);
      semaphores = omega (arith, many_semaphores ds, declared ds ts kinds.Semaphore names.0);
      counts = counts;
      codes = λ k d lt. (right k d lt).valid;
      locals = λ k d lt. (right k d lt).few;
      own_locals = λ k d lt. (right k d lt).own;
      jumps = λ k d lt. (right k d lt).jumps;
    }

-- the program of parts that are as the tree says
pub lowered_is : (t : Tree) (ds : List Declaration) (ts : List Thread)
    (variables : List program.Variable) (mutexes conditions : List (List ℕ))
    (semaphores : List program.Semaphore) (threads : List program.Thread) → ds ≡ t.declarations
    → ts ≡ t.threads
    → variables ≡ objects_by variable_of ds → mutexes ≡ objects_by mutex_of ds
    → conditions ≡ objects_by condition_of ds → semaphores ≡ objects_by semaphore_of ds
    → threads ≡ map (thread_code ds) ts
    → record {
      variables = variables;
      mutexes = mutexes;
      conditions = conditions;
      semaphores =
          semaphores;
      threads = threads;
    } ≡ code t
lowered_is t ds ts variables mutexes conditions semaphores threads d e v m c s h =
    let v' = v ∙ ap (λ (l : List Declaration). objects_by variable_of l) d in
    let m' = m ∙ ap (λ (l : List Declaration). objects_by mutex_of l) d in
    let c' = c ∙ ap (λ (l : List Declaration). objects_by condition_of l) d in
    let s' = s ∙ ap (λ (l : List Declaration). objects_by semaphore_of l) d in
    let h' = h ∙ (ap (λ (l : List Declaration). map (thread_code l) ts) d
    ∙ ap (map (thread_code t.declarations)) e) in
    λ i. record {
      variables = v' i;
      mutexes = m' i;
      conditions = c' i;
      semaphores = s' i;
      threads = h' i;
    }

pub lowered_well_formed : (t : Tree) (p : Program) → p ≡ code t → fault t ≡ None
    → All (λ (s : program.Semaphore). s.count ≤ COUNT) p.semaphores → IsWellFormed p
lowered_well_formed t p is e counts = subst (λ (q : Program). IsWellFormed q) (sym is)
    (well_formed t e
    (subst (λ (q : Program). All (λ (s : program.Semaphore). s.count ≤ COUNT) q.semaphores) is
    counts))

-- One declaration and one thread after the other.
use Rattle.std.proofs.Common.{◌≡◌, ℕ, suc, ◌+◌, ◌<◌, false, List, [], ◌∷◌, ◌++◌, length, get_or, take, drop, map, Option, Some, None, Ok, Err, refl, sym, ap, ◌∙◌, arith, add-one, drop-cons, append_assoc}
use Rattle.std.{specs.Option.option_or, proofs.Math.Seq.take-suc}
use Rattle.std.proofs.lemmas.List.{append-nil, length-map, length-take-le}
use Rattle.guest_syntax.specs.Tree.{declaration_view, thread_view, name_view, block_view}
use Rattle.guest_syntax.specs.declared.tree.{Declaration.Declaration, Object.Object, Thread.Thread}
use Rattle.guest_syntax.specs.declared.tree.Object.TheVariants as objects
use Rattle.guest_syntax.specs.Tree as tree
use Rattle.guest_code.specs.Fault.{declares_refusal, first}
use Rattle.guest_code.specs.Uses.{Use, declares, kind_of, block_uses, thread_uses, declarations_uses, threads_uses, uses, kind_in, how_many, thread_locals}
use Rattle.guest_code.specs.declared.error.CheckError.{CheckError}
use Rattle.guest_code.specs.inner.Walk.{passed, walk, fault_of}
use Rattle.guest_code.proofs.BodiesDeclareNothing.{block_declares_nothing, many_skips}
use Rattle.guest_code.proofs.CheckIsFault.{first_walks, first_append, locals_append, walk_leaves}
use Rattle.guest_code.specs.declared.kinds.NameKind.TheVariants as kinds

pub passed_ok : (o : Option CheckError) (x : Unit {0}) → Ok x ≡ passed o x → o ≡ None
passed_ok None x e = refl
passed_ok (Some d) x e = absurd cc

pub passed_err : (o : Option CheckError) (x : Unit {0}) (d : CheckError) → Err d ≡ passed o x
    → o ≡ Some d
passed_err None x d e = absurd cc
passed_err (Some c) x d e = cc

-- ---- declarations

d_append : (xs ys : List Declaration) → declarations_uses (map declaration_view (xs ++ ys))
    ≡ declarations_uses (map declaration_view xs) ++ declarations_uses (map declaration_view ys)
d_append [] ys = refl
d_append (x ∷ xs) ys = ap (λ (us : List Use). declares (kind_of x.object) (name_view x.name) ∷ us)
    (d_append xs ys)

d_more : (ds : List Declaration) (i : ℕ) (x : Declaration) → i < length ds → x ≡ get_or ds i x
    → declarations_uses (map declaration_view (take (i + 1) ds)) ≡ declarations_uses
    (map declaration_view (take i ds)) ++ declares (kind_of x.object) (name_view x.name) ∷ []
d_more ds i x lt is = rw (add-one, take-suc ds i x, ← is, d_append (take i ds) (x ∷ [])) refl

pub declaration_step : (all : List Use) (ds : List Declaration) (i : ℕ) (x : Declaration)
    → i < length ds → x ≡ get_or ds i x
    → first all (declarations_uses (map declaration_view (take i ds)))
    (declarations_uses (map declaration_view (drop i ds)))
    ≡ option_or (declares_refusal (kind_of x.object) (name_view x.name)
    (kind_in (uses (map declaration_view (take i ds)) []) x.name.text.items)
    (how_many (kind_of x.object) (uses (map declaration_view (take i ds)) [])))
    (first all (declarations_uses (map declaration_view (take (i + 1) ds)))
    (declarations_uses (map declaration_view (drop (i + 1) ds))))
declaration_step all ds i x lt is =
    rw (
      append-nil (declarations_uses (map declaration_view (take i ds))),
      d_more ds i x lt is,
      add-one,
      drop-cons ds i x,
      ← is,
    ) refl

-- ---- threads

t_append : (xs ys : List Thread) → threads_uses (map thread_view (xs ++ ys)) ≡ threads_uses
    (map thread_view xs) ++ threads_uses (map thread_view ys)
t_append [] ys = refl
t_append (x ∷ xs) ys = ap (λ (us : List Use). thread_uses (thread_view x) ++ us) (t_append xs ys)
    ∙ sym (append_assoc (thread_uses (thread_view x)) (threads_uses (map thread_view xs))
    (threads_uses (map thread_view ys)))

t_more : (ts : List Thread) (i : ℕ) (x : Thread) → i < length ts → x ≡ get_or ts i x
    → threads_uses (map thread_view (take (i + 1) ts)) ≡ threads_uses
    (map thread_view (take i ts)) ++ thread_uses (thread_view x)
t_more ts i x lt is = rw (
  add-one,
  take-suc ts i x,
  ← is,
  t_append (take i ts)
      (x ∷ []),
  append-nil (thread_uses (thread_view x)),
) refl

no_thread : (o : Object) (n : tree.Name) (us : List Use)
    → how_many kinds.Thread (declares (kind_of o) n ∷ us) ≡ how_many kinds.Thread us
no_thread (objects.Variable z) n us = refl
no_thread objects.Mutex n us = refl
no_thread objects.Condition n us = refl
no_thread (objects.Semaphore z) n us = refl

pub many_none : (ds : List tree.Declaration) (us : List Use)
    → how_many kinds.Thread (declarations_uses ds ++ us) ≡ how_many kinds.Thread us
many_none [] us = refl
many_none (d ∷ ds) us = no_thread d.object d.name (declarations_uses ds ++ us) ∙ many_none ds us

pub many_threads : (ts : List tree.Thread) → how_many kinds.Thread (threads_uses ts) ≡ length ts
many_threads [] = refl
many_threads (t ∷ ts) = ap suc
    (many_skips (block_uses false t.body) (threads_uses ts) kinds.Thread
    (block_declares_nothing false t.body) ∙ many_threads ts)

-- one thread, and then the rest
pub one_thread : (all before : List Use) (t : tree.Thread) (rest : List Use)
    → first all before (thread_uses t ++ rest)
    ≡ option_or (declares_refusal kinds.Thread t.name (kind_in before t.name.text)
    (how_many kinds.Thread before))
    (option_or (fault_of (walk all [] (block_uses false t.body)))
    (first all (before ++ thread_uses t) rest))
one_thread all before t rest =
    let d = declares kinds.Thread t.name in
    let bu = block_uses false t.body in
    let split : first all (before ++ d ∷ []) (bu ++ rest) ≡ option_or
    (first all (before ++ d ∷ []) bu) (first all ((before ++ d ∷ []) ++ bu) rest) =
    first_append all (before ++ d ∷ []) bu rest in
    let here : first all (before ++ d ∷ []) bu ≡ fault_of (walk all [] (block_uses false t.body)) =
    first_walks all (before ++ d ∷ []) bu (block_declares_nothing false t.body)
    ∙ ap (λ (ns : List (List ℕ)). fault_of (walk all ns bu))
    (locals_append [] before (d ∷ [])) in
    let joined : (before ++ d ∷ []) ++ bu ≡ before ++ thread_uses t = append_assoc before
    (d ∷ []) bu in
    ap (option_or (declares_refusal kinds.Thread t.name (kind_in before t.name.text)
    (how_many kinds.Thread before)))
    (split ∙ (ap (λ (o : Option CheckError). option_or o
    (first all ((before ++ d ∷ []) ++ bu) rest)) here
    ∙ ap (λ (us : List Use). option_or (fault_of (walk all [] (block_uses false t.body)))
    (first all us rest)) joined))

pub thread_step : (all : List Use) (ds : List tree.Declaration) (ts : List Thread) (i : ℕ)
    (x : Thread) → i < length ts → x ≡ get_or ts i x
    → first all (uses ds (map thread_view (take i ts))) (threads_uses (map thread_view (drop i ts)))
    ≡ option_or (declares_refusal kinds.Thread (name_view x.name)
    (kind_in (uses ds (map thread_view (take i ts))) x.name.text.items) i)
    (option_or (fault_of (walk all [] (block_uses false (block_view x.body.items))))
    (first all (uses ds (map thread_view (take (i + 1) ts)))
    (threads_uses (map thread_view (drop (i + 1) ts)))))
thread_step all ds ts i x lt is =
    let count : how_many kinds.Thread (uses ds (map thread_view (take i ts))) ≡ i =
    many_none ds (threads_uses (map thread_view (take i ts)))
    ∙ (many_threads (map thread_view (take i ts))
    ∙ (length-map (take i ts) thread_view ∙ length-take-le i ts (omega arith))) in
    let cut : threads_uses (map thread_view (drop i ts)) ≡ thread_uses (thread_view x)
    ++ threads_uses (map thread_view (drop (i + 1) ts)) = rw (add-one, drop-cons ts i x, ← is)
    refl in
    let more : uses ds (map thread_view (take i ts)) ++ thread_uses (thread_view x) ≡ uses ds
    (map thread_view (take (i + 1) ts)) =
    append_assoc (declarations_uses ds) (threads_uses (map thread_view (take i ts)))
    (thread_uses (thread_view x)) ∙ ap (λ (us : List Use). declarations_uses ds ++ us)
    (sym (t_more ts i x lt is)) in
    let one = one_thread all (uses ds (map thread_view (take i ts))) (thread_view x)
    (threads_uses (map thread_view (drop (i + 1) ts))) in
    ap (λ (us : List Use). first all (uses ds (map thread_view (take i ts))) us) cut ∙ (one ∙
    (ap (λ (k : ℕ). option_or
    (declares_refusal kinds.Thread (name_view x.name)
    (kind_in (uses ds (map thread_view (take i ts))) x.name.text.items) k)
    (option_or (fault_of (walk all [] (block_uses false (block_view x.body.items))))
    (first all (uses ds (map thread_view (take i ts)) ++ thread_uses (thread_view x))
    (threads_uses (map thread_view (drop (i + 1) ts)))))) count
    ∙ ap (λ (us : List Use). option_or
    (declares_refusal kinds.Thread (name_view x.name)
    (kind_in (uses ds (map thread_view (take i ts))) x.name.text.items) i)
    (option_or (fault_of (walk all [] (block_uses false (block_view x.body.items))))
    (first all us (threads_uses (map thread_view (drop (i + 1) ts)))))) more))

-- the declarations are right: the threads are left
pub threads_left : (all : List Use) (ds : List tree.Declaration) (us : List Use)
    → first all [] (declarations_uses ds) ≡ None → first all [] (declarations_uses ds ++ us)
    ≡ first all (declarations_uses ds ++ []) us
threads_left all ds us e = first_append all [] (declarations_uses ds) us
    ∙ (ap (λ (o : Option CheckError). option_or o (first all (declarations_uses ds) us)) e
    ∙ rw (append-nil (declarations_uses ds)) refl)

-- the declarations are not right
pub threads_not : (all : List Use) (ds : List tree.Declaration) (us : List Use) (d : CheckError)
    → first all [] (declarations_uses ds) ≡ Some d → first all [] (declarations_uses ds ++ us)
    ≡ Some d
threads_not all ds us d e = first_append all [] (declarations_uses ds) us
    ∙ ap (λ (o : Option CheckError). option_or o (first all (declarations_uses ds) us)) e

-- the locals of a thread, as its walk leaves them
pub body_leaves : (all : List Use) (t : tree.Thread) (ns : List (List ℕ))
    → walk all [] (block_uses false t.body) ≡ Ok ns → ns ≡ thread_locals t
body_leaves all t ns e = sym
    (walk_leaves all (block_uses false t.body) [] ns (block_declares_nothing false t.body) e)

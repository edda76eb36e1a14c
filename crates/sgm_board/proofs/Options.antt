-- What is said of an answer, by its cases.
use Rattle.std.proofs.Common.{IfSome, Option, Some, None}
use Rattle.std.specs.Option.{IfNone}

pub if_some_both : {A : Type 0} (o : Option A) (P Q R : A → Type 0) → ((a : A) → P a → Q a → R a) → IfSome o P → IfSome o Q → IfSome o R
if_some_both None P Q R f p q = p
if_some_both (Some a) P Q R f p q = f a p q

pub if_some_map : {A : Type 0} (o : Option A) (P Q : A → Type 0) → ((a : A) → P a → Q a) → IfSome o P → IfSome o Q
if_some_map None P Q f p = p
if_some_map (Some a) P Q f p = f a p

pub if_none_map : {A : Type 0} (o : Option A) (P Q : Type 0) → (P → Q) → IfNone o P → IfNone o Q
if_none_map None P Q f p = f p
if_none_map (Some a) P Q f p = p

pub either_way : {A : Type 0} (o : Option A) (P : A → Type 0) (Q R : Type 0) → ((a : A) → P a → R) → (Q → R) → IfSome o P → IfNone o Q → R
either_way None P Q R some none p q = none q
either_way (Some a) P Q R some none p q = some a p

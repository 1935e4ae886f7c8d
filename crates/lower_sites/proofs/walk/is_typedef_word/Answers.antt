use Rattle.std.proofs.Common.{refl}
use Rattle.c_tree.proofs.TypedViewLaws.{typed_specifier-Keyword, typed_specifier-Typedef, typed_specifier-Tagged, typed_specifier-Aggregate, typed_specifier-Enum, typed_specifier-Enumeration}
use Rattle.lower_sites.proofs.walk.is_typedef_word.Goals as goal

pub returns-in-Typedef : goal.returns-in-Typedef
returns-in-Typedef c = λ all. rw (c.in-Typedef.is, typed_specifier-Typedef) refl

pub returns-in-Tagged : goal.returns-in-Tagged
returns-in-Tagged c = λ all. rw (c.in-Tagged.is, typed_specifier-Tagged) refl

pub returns-in-Aggregate : goal.returns-in-Aggregate
returns-in-Aggregate c = λ all. rw (c.in-Aggregate.is, typed_specifier-Aggregate) refl

pub returns-in-Enum : goal.returns-in-Enum
returns-in-Enum c = λ all. rw (c.in-Enum.is, typed_specifier-Enum) refl

pub returns-in-Enumeration : goal.returns-in-Enumeration
returns-in-Enumeration c = λ all. rw (c.in-Enumeration.is, typed_specifier-Enumeration) refl

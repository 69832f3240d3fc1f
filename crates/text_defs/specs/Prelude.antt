-- The definitions of this crate that others cite, passed on from one place. Declares nothing.
pub use Rattle.text_defs.specs.AnswerTexts.{class_line, class_lines, component_line, component_name, differ_header, digits_text, elements_text, entry_line}
pub use Rattle.text_defs.specs.AnswerTexts.{entry_name, equation, form_text, free_names, has_entry, has_index, line_of, name_text, named, named_roots}
pub use Rattle.text_defs.specs.AnswerTexts.{numbered, operation_text, or_none, pairs_text, rational, row_entries, row_text, same_text, state_text}
pub use Rattle.text_defs.specs.AnswerTexts.{states_text, table_text, voigt_text, weights_word, yes_no}
pub use Rattle.text_defs.specs.Answers.{AnswersRequest, AreJoined, AreStateTexts, IsAnswer, IsDifferText, IsFormText, IsStateText}
pub use Rattle.text_defs.specs.GroupTexts.{IsFullText, IsGroupText, IsSuffix, SpellsGroup, ends_operator, grey_one, grey_text, group_text, no_suffix}
unfoldable pub use Rattle.text_defs.specs.GroupTexts.{operators_in, suffix_at, with_primes}
pub use Rattle.text_defs.specs.JahnTexts.{AreMarks, IsJahnText, SpellsBody, SpellsFactors, SpellsJahn, atom_text, closing, factor_text, jahn_text, no_marks}
pub use Rattle.text_defs.specs.JahnTexts.{opening, power_text, together}
pub use Rattle.text_defs.specs.Languages.{Begins, IsFaulty}
pub use Rattle.text_defs.specs.Lines.{AreAnswers, AreAnswersOf, HasRefused, ended, format_of, format_told, lines_of, whole_lines}
pub use Rattle.text_defs.specs.NumberTexts.{NamedTerm, joined, root3_text, spaced, sum_text, term_text}
pub use Rattle.text_defs.specs.Refusals.{AreAccepted, FirstAt, FirstRefused, HasOtherShape, HasShape, InRank, IsHeading, IsNotSub, IsOutside, IsPassed}
pub use Rattle.text_defs.specs.Refusals.{IsRefused, JahnGrows, RefusalWord, Refuses, RefusesRequest, groups_of, heading, jahns_of, refusal_text}
pub use Rattle.text_defs.specs.Requests.{GroupAt, GroupGroup, GroupGroupJahn, GroupGroupJahns, GroupJahn, GroupJahns, GroupWord, IsComment, IsNoRequest}
pub use Rattle.text_defs.specs.Requests.{IsRequestText, JahnAt, JahnWord, JahnWords, Request, SpellsRequest, longest_line, most_words, weights_text}
pub use Rattle.text_defs.specs.Requests.Request.{Comment, Differ, Form, Group, Pairs, Same, States, Voigt}

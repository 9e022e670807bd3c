-- What an input holds is one list of items, which are valid and no deeper than the limit; what is written deterministically holds what it was written from.
pub mod SameNodes
pub mod ReadsBack
pub mod Meant
pub mod Notated
pub mod Known
pub mod ShownBack
pub mod SameBytes
pub mod BadTexts
pub mod NotatedTexts

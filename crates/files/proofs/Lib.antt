-- What the code rests on: a loop that counts, the bytes of a name; an entry of a file; and the files of small volumes, evaluated.
pub mod CountedLaws
pub mod LineLaws
pub mod FileLaws
pub mod Examples

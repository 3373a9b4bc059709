-- What a width puts before digits.
mod Wide
